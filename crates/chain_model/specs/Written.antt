-- What a list of cells writes. This project's own rule.
use Rattle.std.specs.Prelude.{◌≡◌, ℕ, ◌<◌, List, [], ◌∷◌, ◌++◌, length}
use Rattle.std.specs.List.{flat_map}
use Rattle.ts_packet.specs.declared.cell.Cell.{Cell}
use Rattle.ts_packet.specs.Cells.{Live, Dropped}

-- the bytes that a cell writes: those of its packet, or none where the packet was dropped; labels are not written
abbrev pub cell_bytes : Cell → List ℕ
cell_bytes (Live packet labels) = packet
cell_bytes Dropped = []

-- the bytes of the live packets, in order
abbrev pub written : List Cell → List ℕ
written cells = flat_map cell_bytes cells

-- these bytes are a first part of the packet of the first of these cells, and not all of it
abbrev pub IsPartOfFirst : List Cell → List ℕ → Type 0
IsPartOfFirst [] part = ⊥
IsPartOfFirst (Dropped ∷ cells) part = ⊥
IsPartOfFirst (Live packet labels ∷ cells) part =
    (rest : List ℕ) × (0 < length rest) × (packet ≡ part ++ rest)
