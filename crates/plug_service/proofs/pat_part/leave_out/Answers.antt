use Rattle.std.proofs.Common.{rules, map, ap, ◌∙◌}
use Rattle.std.proofs.lemmas.Fn.{filter_same}
use Rattle.ts_psi.specs.PatTables.{service_item}
use Rattle.plug_service.specs.ServiceEdits.{entry_stays, stays}
use Rattle.plug_psi.proofs.KeptView.{kept_view}
use Rattle.plug_service.proofs.PartLemmas.{service-stays}
use Rattle.plug_service.proofs.pat_part.leave_out.Goals as goal

pub returns : goal.returns
returns c =
    ap (map service_item) (filter_same _ (λ s. stays c.args.way c.args.services.now s.service_id) _ (λ x b f' k. search rules) _ _ c.retain.ensures.filtered)
    ∙ kept_view service_item (λ s. stays c.args.way c.args.services.now s.service_id) (entry_stays c.args.way c.args.services.now) (service-stays c.args.way c.args.services.now) c.args.entries.now.items
