use Rattle.std.proofs.Common.{◌≡◌, ◌≤◌, ◌+◌, ◌-◌, ℕ, List, ◌++◌, length, drop}
use Rattle.packet_search.specs.Search.{search_from}
use Rattle.packet_search.specs.Settled.{IsEnough}
use Rattle.packet_search.proofs.finding.find.Given as goal

abbrev pub invariant-loop-from : goal.invariant-loop-from
invariant-loop-from l = record {
  within : l.from ≤ length l.bytes;
  goes_on : (left : ℕ) (more : List ℕ) → IsEnough l.form l.enough more
      → search_from l.form 0 l.near left (l.bytes ++ more) ≡ search_from l.form 0 l.beside (left + l.from) (drop l.from l.bytes ++ more);
}

abbrev pub decreases-loop-from : goal.decreases-loop-from
decreases-loop-from l = length l.bytes - l.from
