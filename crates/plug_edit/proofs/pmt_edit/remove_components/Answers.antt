use Rattle.std.proofs.Common.{rules, map, ap, refl, ◌∙◌}
use Rattle.std.specs.Prelude.{not}
use Rattle.std.proofs.lemmas.Fn.{filter_same}
use Rattle.ts_psi.specs.PsiTables.{component_item}
use Rattle.plugin_options.specs.NumberSet.{has_number}
use Rattle.plug_edit.specs.PmtEdit.{component_pid}
use Rattle.plug_psi.proofs.KeptView.{kept_view}
use Rattle.plug_edit.proofs.pmt_edit.remove_components.Goals as goal

pub returns : goal.returns
returns c =
    ap (map component_item) (filter_same _ (λ s. not (has_number c.args.listed.now s.pid)) _ (λ x b f' k. search rules) _ _ c.retain.ensures.filtered)
    ∙ kept_view component_item (λ s. not (has_number c.args.listed.now s.pid)) (λ component. not (has_number c.args.listed.now (component_pid component))) (λ x. refl) c.args.components.now.items
