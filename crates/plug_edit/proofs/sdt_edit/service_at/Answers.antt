use Rattle.std.proofs.Common.{ap, refl, sym, ◌∙◌, unwrap_or, option_map}
use Rattle.ts_si.specs.SiTables.{service_item}
use Rattle.plug_edit.specs.SdtEdit.{has_id, is_service, new_service}
use Rattle.plug_edit.proofs.ChangingLemmas.{find_view, found_at, none_at}
use Rattle.plug_edit.proofs.sdt_edit.service_at.Goals as goal

pub returns-in_ok-service-in-Some : goal.returns-in_ok-service-in-Some
returns-in_ok-service-in-Some c = λ told.
    ap service_item (c.in_ok-service-in-Some.ensures ∙ c.index-services-place.is)
    ∙ ap (λ o. unwrap_or o (new_service c.args.id)) (sym (find_view service_item (is_service c.args.id) (has_id c.args.id) (λ x. refl) c.args.services.now
    ∙ ap (option_map service_item) (found_at (is_service c.args.id) c.args.services.now c.in-Some.place c.index-services-place.result (sym c.in-Some.is ∙ told))))

pub returns-in-None : goal.returns-in-None
returns-in-None c = λ told.
    c.fresh_service.ensures
    ∙ ap (λ o. unwrap_or o (new_service c.args.id)) (sym (find_view service_item (is_service c.args.id) (has_id c.args.id) (λ x. refl) c.args.services.now
    ∙ ap (option_map service_item) (none_at (is_service c.args.id) c.args.services.now (sym c.in-None.is ∙ told))))
