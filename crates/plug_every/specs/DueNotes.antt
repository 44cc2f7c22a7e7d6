-- The packets behind which a summary is due. This project's own rule.
use Rattle.std.specs.Prelude.{ℕ, ◌+◌, List, [], ◌∷◌, length, if◌then◌else◌}
use Rattle.ts_packet.specs.declared.cell.Cell.{Cell}
use Rattle.plugin_trait.specs.LiveCount.{live_count}
use Rattle.plug_every.specs.EveryRule.{is_due}
use Rattle.plug_every.specs.declared.due.Due.{Due}

-- where a due packet is
abbrev pub place_of : Due → ℕ
place_of due = due.at

-- the note on a packet after a history, where it is due: its position, and how many packets the plugin has seen with it
abbrev pub due_on : ℕ → List Cell → List ℕ → List Due
due_on n history packet =
    if is_due n history then record { at = length history; seen = live_count history + 1 } ∷ [] else []
