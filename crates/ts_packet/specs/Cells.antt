-- A cell: a place in the chain that holds a packet or the mark of a dropped one. This project's own rule.
use Rattle.std.specs.Prelude.{ℕ, List, [], ◌∷◌, Bool, true, false}
use Rattle.std.specs.List.{flat_map}

-- what contracts see of a cell
pub data CellValue : Type 0 where
  -- the packet as the plugins before left it, and its labels
  Live : (packet : List ℕ) (labels : ℕ) → CellValue
  -- the place of a dropped packet; it stays, so that places keep their numbers
  Dropped : CellValue

-- whether a cell has a packet
abbrev pub is_live : CellValue → Bool
is_live (Live packet labels) = true
is_live Dropped = false

-- the packet of a live cell, and none of a dropped one
abbrev pub packet_in : CellValue → List (List ℕ)
packet_in (Live packet labels) = packet ∷ []
packet_in Dropped = []

-- the packets of the live cells, in order
abbrev pub live_packets : List CellValue → List (List ℕ)
live_packets cells = flat_map packet_in cells
