use Rattle.std.proofs.Common.{◌≡◌, take}
use Rattle.ts_section.proofs.table_run.TableRun.copy.Given as goal

abbrev pub invariant-loop-section : goal.invariant-loop-section
invariant-loop-section l = l.sections.items ≡ take l.section-index l.held
