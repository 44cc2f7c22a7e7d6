use Rattle.std.proofs.Common.{map, ap, refl, sym, ◌∙◌}
use Rattle.std.specs.Prelude.{nat_eq}
use Rattle.std.specs.List.{position}
use Rattle.ts_psi.specs.PsiTables.{component_item}
use Rattle.plug_edit.specs.Changing.{changed_first}
use Rattle.plug_edit.specs.PmtEdit.{component_pid, is_on, new_component, with_type}
use Rattle.plug_edit.proofs.ChangingLemmas.{changed_last_seen, changed_seen_at}
use Rattle.plug_edit.proofs.pmt_edit.add_component.Goals as goal

pub returns-in-Some : goal.returns-in-Some
returns-in-Some c =
    changed_seen_at component_item (is_on c.args.pid) (λ component. nat_eq (component_pid component) c.args.pid) (with_type c.args.stream_type)
    (new_component c.args.stream_type c.args.pid) _ c.index_mut.result.now (λ x. refl) c.args.components.now.items c.in-Some.place
    (sym c.in-Some.is ∙ c.place_of.ensures.place ∙ ap (position (is_on c.args.pid)) c.deref.ensures.value)
    (ap (λ x. with_type c.args.stream_type (component_item x)) c.index_mut.ensures.value)

pub returns-in_ok-push-in-None : goal.returns-in_ok-push-in-None
returns-in_ok-push-in-None c =
    ap (map component_item) c.in_ok-push-in-None.ensures.items
    ∙ changed_last_seen component_item (is_on c.args.pid) (λ component. nat_eq (component_pid component) c.args.pid) (with_type c.args.stream_type) _ (λ x. refl) c.args.components.now.items
    (sym c.in-None.is ∙ c.place_of.ensures.place ∙ ap (position (is_on c.args.pid)) c.deref.ensures.value)
    ∙ ap (λ fresh. changed_first (λ component. nat_eq (component_pid component) c.args.pid) (with_type c.args.stream_type) fresh (map component_item c.args.components.now.items)) c.new_component.ensures
