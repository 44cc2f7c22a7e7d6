-- Notes on the packets that a plugin has processed, from which its report is made. This project's own rule.
use Rattle.std.specs.Prelude.{ℕ, List, [], ◌∷◌, ◌++◌}
use Rattle.ts_packet.specs.declared.cell.Cell.{Cell}
use Rattle.ts_packet.specs.Cells.{Live, Dropped}

-- the notes on the live cells after a history, in the order of their positions
abbrev pub notes_after : {N : Type 0} → (List Cell → List ℕ → List N) → List Cell → List Cell → List N
notes_after note history [] = []
notes_after note history (Live packet labels ∷ cells) =
    note history packet ++ notes_after note (history ++ Live packet labels ∷ []) cells
notes_after note history (Dropped ∷ cells) = notes_after note (history ++ Dropped ∷ []) cells
