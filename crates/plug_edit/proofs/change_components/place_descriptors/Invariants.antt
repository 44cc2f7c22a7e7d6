use Rattle.std.proofs.Common.{◌≡◌, map, take}
use Rattle.std.specs.Prelude.{fold}
use Rattle.ts_psi.specs.PsiTables.{component_item}
use Rattle.plug_edit.specs.PmtChanges.{with_descriptors}
use Rattle.plug_edit.proofs.change_components.place_descriptors.Given as goal

abbrev pub invariant-loop-given : goal.invariant-loop-given
invariant-loop-given l = map component_item l.components.items ≡ fold with_descriptors (map component_item l.fn.components.items) (take l.given-index l.placed)
