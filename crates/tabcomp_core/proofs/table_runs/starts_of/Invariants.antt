use Rattle.std.proofs.Common.{◌≡◌, length, take}
use Rattle.std.specs.List.{concat}
use Rattle.tabcomp_core.proofs.StartLemmas.{StartsTo}
use Rattle.tabcomp_core.proofs.table_runs.starts_of.Given as goal

abbrev pub invariant-loop-section : goal.invariant-loop-section
invariant-loop-section l = record {
  told : StartsTo l.sections l.section-index l.starts.items;
  offset : l.offset ≡ length (concat (take l.section-index l.sections));
}
