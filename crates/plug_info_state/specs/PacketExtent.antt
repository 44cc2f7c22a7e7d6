-- How far the packets of a list reach, from the first one to the last. This project's own rule.
use Rattle.std.specs.Prelude.{ℕ, ◌+◌, ◌-◌, List, [], ◌∷◌, Option, None, Some}
use Rattle.ts_packet.specs.declared.cell.Cell.{Cell}
use Rattle.ts_packet.specs.MetRows.{Met, met_rows}

-- the last of a packet and those after it
abbrev pub last_after : Met → List Met → Met
last_after first [] = first
last_after first (row ∷ rows) = last_after row rows

-- the last packet, if there is one
abbrev pub last_row : List Met → Option Met
last_row [] = None
last_row (first ∷ rows) = Some (last_after first rows)

-- The positions from the first packet to the last one, both included; none without a packet. Cells that were dropped
-- between them keep their positions, and so their time; those before and after them have no part in it.
abbrev pub extent_in : List Met → ℕ
extent_in [] = 0
extent_in (first ∷ rows) = (last_after first rows).at + 1 - first.at

-- the positions from the first packet of a list of cells to the last one
abbrev pub extent_of : List Cell → ℕ
extent_of cells = extent_in (met_rows cells)
