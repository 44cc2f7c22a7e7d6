-- The cells that were processed: those below the greatest mark are counted, and the others wait. This project's own
-- rule.
use Rattle.std.specs.Prelude.{◌≡◌, ◌≤◌, ℕ, List, length, take, drop}
use Rattle.ts_packet.specs.declared.cell.Cell.{Cell}
use Rattle.chain_model.specs.declared.positions.TheConstants.{POSITION_LIMIT}
use Rattle.plug_info_state.specs.Tracked.{Tracks}
use Rattle.plug_info.specs.declared.met_cells.MetCells.{MetCells}

-- these cells were processed, and this is the greatest mark
pub record HasMet (met : MetCells) (history : List Cell) (mark : ℕ) : Type 0 where
  pub tracks : Tracks met.tracker (take mark history)
  pub waits : met.waiting.items ≡ drop mark history
  pub marked : met.mark ≡ mark
  pub within : mark ≤ length history
  pub short : length history ≤ POSITION_LIMIT
