-- Cells that are lifted out of the buffer of a chain in one thread, and put back. This project's own rule.
use Rattle.std.specs.Prelude.{◌≡◌, ℕ, ◌+◌, List, length, take, drop}
use Rattle.ts_packet.specs.Cells.{CellValue}
use Rattle.cell_land.specs.Cells.{CellLand, CellPiece, cell_piece}
use Rattle.chain_run.specs.declared.cell_block.Lifted.{Lifted}

-- the cells of `len` slots from `start` on, with those before and behind them
pub record Lifts (items : List CellValue) (start len : ℕ) (lifted : Lifted) : Type 0 where
  pub land : CellLand
  pub count : land.count ≡ length items
  pub before : lifted.before ≡ cell_piece land 0 (take start items)
  pub window : lifted.window ≡ cell_piece land start (take len (drop start items))
  pub behind : lifted.behind ≡ cell_piece land (start + len) (drop len (drop start items))

-- three windows that are all slots of their block, one behind another
pub record InARow (before window behind : CellPiece) : Type 0 where
  pub first : before.start ≡ 0
  pub land : window.land ≡ before.land
  pub second : window.start ≡ length before.cells
  pub land_behind : behind.land ≡ before.land
  pub third : behind.start ≡ length before.cells + length window.cells
  pub whole : length before.cells + (length window.cells + length behind.cells) ≡ before.land.count
