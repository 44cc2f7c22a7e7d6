use Rattle.std.proofs.Common.{ap, map, refl, sym, ◌∙◌, Some, unwrap_or, option_map}
use Rattle.std.specs.Prelude.{find}
use Rattle.std.specs.List.{position}
use Rattle.ts_si.specs.SiTables.{service_item}
use Rattle.plug_edit.specs.ServiceChange.{changed_service}
use Rattle.plug_edit.specs.SdtEdit.{has_id, is_service, new_service, with_changed}
use Rattle.plug_edit.proofs.ChangingLemmas.{changed_view}
use Rattle.plug_edit.proofs.sdt_edit.with_service.Goals as goal

pub returns : goal.returns
returns c =
    ap Some (ap (map service_item) (c.in_ok-put_first.ensures (is_service c.args.id) (c.place_of-place.ensures.place ∙ ap (position (is_service c.args.id)) c.deref.ensures.value))
    ∙ changed_view service_item (is_service c.args.id) (has_id c.args.id) (λ _. c.in-Some.changed) (λ _. service_item c.in-Some.changed) c.in-Some.changed (λ x. refl) (λ x. refl) c.args.services.items)
    ∙ ap (option_map (with_changed c.args.id (map service_item c.args.services.items)))
    (ap (option_map service_item) (sym c.in-Some.is) ∙ c.in_ok-changed.ensures
    ∙ ap (changed_service c.args.conf.now) (c.in_ok-service.ensures (c.place_of-place.ensures.place ∙ ap (position (is_service c.args.id)) (c.deref.ensures.value ∙ sym c.deref-2.ensures.value))
    ∙ ap (λ l. unwrap_or (find (has_id c.args.id) (map service_item l)) (new_service c.args.id)) c.deref-2.ensures.value))
