use Rattle.std.proofs.Common.{◌≡◌, ◌++◌, take}
use Rattle.std.specs.List.{concat}
use Rattle.tabcomp_core.proofs.compiling.push_sections.Given as goal

abbrev pub invariant-loop-section : goal.invariant-loop-section
invariant-loop-section l = l.bytes.items ≡ l.initial.bytes.items ++ concat (take l.section-index l.sections)
