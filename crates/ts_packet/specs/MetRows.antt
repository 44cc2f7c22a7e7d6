-- The packets that a plugin met, each with its position and its labels. This project's own rule.
use Rattle.std.specs.Prelude.{ℕ, ◌+◌, List, [], ◌∷◌}
use Rattle.ts_packet.specs.declared.cell.Cell.{Cell}
use Rattle.ts_packet.specs.Cells.{Live, Dropped}

-- a packet that a plugin met: its position, the packet as it was then, and its labels
pub record Met : Type 0 where
  pub at : ℕ
  pub packet : List ℕ
  pub labels : ℕ

-- the packets of the live cells, the first cell of which has this position; dropped cells have positions too
abbrev pub met_from : ℕ → List Cell → List Met
met_from start [] = []
met_from start (Live packet labels ∷ cells) =
    record { at = start; packet = packet; labels = labels } ∷ met_from (start + 1) cells
met_from start (Dropped ∷ cells) = met_from (start + 1) cells

-- the packets of a whole list, whose first cell has position 0
abbrev pub met_rows : List Cell → List Met
met_rows cells = met_from 0 cells
