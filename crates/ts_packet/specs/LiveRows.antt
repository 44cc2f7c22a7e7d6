-- The packets that a plugin met, each with its labels. This project's own rule.
use Rattle.std.specs.Prelude.{ℕ, List, [], ◌∷◌, map}
use Rattle.std.specs.List.{flat_map}
use Rattle.ts_packet.specs.declared.cell.Cell.{Cell}
use Rattle.ts_packet.specs.Cells.{Live, Dropped}
use Rattle.ts_packet.specs.declared.labelled.Labelled.{Labelled}

-- a packet with its labels
abbrev pub labelled : List ℕ → ℕ → Labelled
labelled packet labels = record { packet = packet; labels = labels }

-- the packet of a live cell with its labels; nothing of a dropped one
abbrev pub row_in : Cell → List Labelled
row_in (Live packet labels) = labelled packet labels ∷ []
row_in Dropped = []

-- the packets of the live cells with their labels, in order
abbrev pub live_rows : List Cell → List Labelled
live_rows cells = flat_map row_in cells

-- the packets alone
abbrev pub packets_in : List Labelled → List (List ℕ)
packets_in rows = map (λ row. row.packet) rows
