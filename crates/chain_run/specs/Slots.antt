-- The slots of the buffer. This project's own rule.
use Rattle.std.specs.Prelude.{◌≡◌, ℕ, suc, ◌%◌, List, [], ◌∷◌, length, slice_index_or}
use Rattle.ts_packet.specs.declared.cell.Cell.{Cell}
use Rattle.ts_packet.specs.Cells.{Dropped}

-- the cell at a position: it is in the slot of that number modulo the number of slots
abbrev pub slot : List Cell → ℕ → Cell
slot slots position = slice_index_or slots (position % length slots) Dropped

-- these cells are in the slots from a position on
abbrev pub HoldsFrom : (ℕ → Cell) → ℕ → List Cell → Type 0
HoldsFrom cell_at at [] = Unit {0}
HoldsFrom cell_at at (cell ∷ cells) = (cell_at at ≡ cell) × HoldsFrom cell_at (suc at) cells
