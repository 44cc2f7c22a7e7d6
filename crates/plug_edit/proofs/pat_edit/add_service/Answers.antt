use Rattle.std.proofs.Common.{map, ap, refl, ◌∙◌}
use Rattle.std.specs.Prelude.{nat_eq}
use Rattle.std.specs.List.{position}
use Rattle.ts_psi.specs.PatTables.{entry_item, service_item}
use Rattle.plug_edit.specs.PatEdit.{is_service, service_of}
use Rattle.plug_edit.proofs.ChangingLemmas.{changed_view}
use Rattle.plug_edit.proofs.pat_edit.add_service.Goals as goal

pub returns : goal.returns
returns c =
    ap (map service_item) (c.in_ok-put_first.ensures (is_service c.args.service_id) (c.place_of-place.ensures.place ∙ ap (position (is_service c.args.service_id)) c.deref.ensures.value))
    ∙ changed_view service_item (is_service c.args.service_id) (λ entry. nat_eq (service_of entry) c.args.service_id) (λ _. _) (λ _. entry_item c.args.service_id c.args.pid) _ (λ x. refl) (λ x. refl) c.args.services.now.items
