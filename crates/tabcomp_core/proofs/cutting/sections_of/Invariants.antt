use Rattle.std.proofs.Common.{◌≡◌, ◌-◌, ◌≤◌, drop, length}
use Rattle.tabcomp_core.specs.Cutting.{sections_from, sections_in}
use Rattle.tabcomp_core.proofs.CutLemmas.{with_front}
use Rattle.tabcomp_core.proofs.cutting.sections_of.Given as goal

abbrev pub invariant-loop-offset : goal.invariant-loop-offset
invariant-loop-offset l = record {
  within : l.offset ≤ length l.bytes;
  read : with_front l.sections.items (sections_from (length (drop l.offset l.bytes)) l.offset (drop l.offset l.bytes)) ≡ sections_in l.bytes;
}

abbrev pub decreases-loop-offset : goal.decreases-loop-offset
decreases-loop-offset l = length l.bytes - l.offset
