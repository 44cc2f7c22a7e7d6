-- What is kept of how far the packets reach. This project's own rule.
use Rattle.std.specs.Prelude.{ℕ, ◌+◌, ◌-◌, List, [], ◌∷◌, None, Some, unwrap_or}
use Rattle.ts_packet.specs.MetRows.{Met}
use Rattle.plug_info_state.specs.PacketExtent.{extent_in}
use Rattle.plug_info_state.specs.declared.extent.Extent.{Extent}

-- what is kept after one more packet, at a position
abbrev pub extent_with : Extent → ℕ → Extent
extent_with extent at = record {
  start = Some (unwrap_or extent.start at);
  positions = at + 1 - unwrap_or extent.start at;
}

-- what is kept of packets
abbrev pub kept_extent : List Met → Extent
kept_extent [] = record { start = None; positions = 0 }
kept_extent (first ∷ rows) = record { start = Some first.at; positions = extent_in (first ∷ rows) }
