use Rattle.std.proofs.Common.{◌≡◌, ◌+◌, ◌++◌, length}
use Rattle.std.specs.Vec.Iter.{into_iter_items, into_iter_len}
use Rattle.tabcomp_core.specs.Dividing.{runs_from, runs_in}
use Rattle.tabcomp_core.proofs.DivideLemmas.{IsOpen, with_runs}
use Rattle.tabcomp_core.proofs.dividing.runs_of.Given as goal

abbrev pub invariant-loop-section : goal.invariant-loop-section
invariant-loop-section l = record {
  divided : with_runs l.runs.items (runs_from (length (l.begun.items ++ into_iter_items l.section-iterator)) l.place (l.begun.items ++ into_iter_items l.section-iterator)) ≡ runs_in l.fn.sections.items;
  begins : IsOpen l.begun.items;
  count : into_iter_len l.section-iterator ≡ length (into_iter_items l.section-iterator);
  all : l.place + length l.begun.items + length (into_iter_items l.section-iterator) ≡ length l.fn.sections.items;
}
