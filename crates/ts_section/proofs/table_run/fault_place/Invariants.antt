use Rattle.std.proofs.Common.{ℕ, ◌<◌, ◌≤◌, [], get_or}
use Rattle.ts_section.specs.ValidSection.{IsSection}
use Rattle.ts_section.proofs.RunLemmas.{MembersBelow}
use Rattle.ts_section.proofs.table_run.fault_place.Given as goal

abbrev pub invariant-loop-place : goal.invariant-loop-place
invariant-loop-place l = record {
  within : l.place ≤ l.wanted;
  members : MembersBelow (get_or l.sections 0 []) l.sections l.place;
  valid : (k : ℕ) → k < l.place → IsSection (get_or l.sections k []);
}
