use Rattle.std.proofs.Common.{rules, map, ap, refl, ◌∙◌}
use Rattle.std.specs.Prelude.{not}
use Rattle.std.proofs.lemmas.Fn.{filter_same}
use Rattle.ts_psi.specs.PatTables.{service_item}
use Rattle.plugin_options.specs.NumberSet.{has_number}
use Rattle.plug_edit.specs.PatEdit.{service_of}
use Rattle.plug_psi.proofs.KeptView.{kept_view}
use Rattle.plug_edit.proofs.pat_edit.remove_services.Goals as goal

pub returns : goal.returns
returns c =
    ap (map service_item) (filter_same _ (λ s. not (has_number c.args.listed.now s.service_id)) _ (λ x b f' k. search rules) _ _ c.retain.ensures.filtered)
    ∙ kept_view service_item (λ s. not (has_number c.args.listed.now s.service_id)) (λ entry. not (has_number c.args.listed.now (service_of entry))) (λ x. refl) c.args.services.now.items
