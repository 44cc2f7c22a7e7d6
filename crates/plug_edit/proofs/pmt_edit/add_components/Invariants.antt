use Rattle.std.proofs.Common.{◌≡◌, map, take}
use Rattle.ts_psi.specs.PsiTables.{component_item}
use Rattle.plug_edit.specs.PmtEdit.{with_components}
use Rattle.plug_edit.proofs.pmt_edit.add_components.Given as goal

abbrev pub invariant-loop-pair : goal.invariant-loop-pair
invariant-loop-pair l = map component_item l.components.items ≡ with_components (map component_item l.fn.components.items) (take l.pair-index l.added)
