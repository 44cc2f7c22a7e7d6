-- What becomes of a packet in whose place another one passes, or none. This project's own rule.
use Rattle.std.specs.Prelude.{ℕ, List, Bool, Option, None, Some, if◌then◌else◌}
use Rattle.ts_packet.specs.Packet.{null_packet}
use Rattle.chain_model.specs.PluginRule.{RuleOutcome, passes, drops}

-- where none passes, the packet is dropped, or becomes a null packet
abbrev pub action : Bool → Option (List ℕ) → RuleOutcome
action stuffing None = if stuffing then passes null_packet else drops
action stuffing (Some packet) = passes packet
