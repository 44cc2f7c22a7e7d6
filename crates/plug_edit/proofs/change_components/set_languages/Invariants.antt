use Rattle.std.proofs.Common.{◌≡◌, map, take}
use Rattle.std.specs.Prelude.{fold}
use Rattle.ts_psi.specs.PsiTables.{component_item}
use Rattle.plug_edit.specs.PmtChanges.{with_code}
use Rattle.plug_edit.proofs.change_components.set_languages.Given as goal

abbrev pub invariant-loop-language : goal.invariant-loop-language
invariant-loop-language l = map component_item l.components.items ≡ fold with_code (map component_item l.fn.components.items) (take l.language-index l.languages)
