-- What `remap` keeps of each PID: a table of moves. This project's own rule.
use Rattle.std.specs.Prelude.{◌≡◌, ◌<◌, ℕ, List, Bool, not, Option, None, Some, ◌&&◌, if◌then◌else◌}
use Rattle.std.specs.List.{slice_index_or}
use Rattle.ts_packet.specs.declared.numbers.TheConstants.{PID_COUNT}
use Rattle.plug_move.specs.RemapSettings.{is_target}
use Rattle.plug_move.specs.Targets.{target_of}
use Rattle.plug_move.specs.declared.move_table.Move.{Move}
use Rattle.plug_move.specs.declared.move_table.Move.TheVariants.{Keep, To, Refuse}

-- the move of a PID with this target, or none
abbrev pub move_by : Option ℕ → Bool → Move
move_by (Some target) refused = To target
move_by None refused = if refused then Refuse else Keep

-- the move of a PID
abbrev pub move_of : List (ℕ × ℕ) → Bool → ℕ → Move
move_of pairs unchecked pid = move_by (target_of pairs pid) (not unchecked && is_target pid pairs)

-- where a move leads to a PID, it is one
abbrev pub LeadsToPid : Move → Type 0
LeadsToPid Keep = Unit {0}
LeadsToPid (To target) = target < PID_COUNT
LeadsToPid Refuse = Unit {0}

-- the row has for each PID what is done with its packets
pub record IsMoveTable (pairs : List (ℕ × ℕ)) (unchecked : Bool) (moves : List Move) : Type 0 where
  pub tells : (pid : ℕ) → pid < PID_COUNT → slice_index_or moves pid Keep ≡ move_of pairs unchecked pid
  pub leads : (pid : ℕ) → LeadsToPid (move_of pairs unchecked pid)
