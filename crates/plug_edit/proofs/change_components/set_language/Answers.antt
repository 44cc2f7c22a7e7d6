use Rattle.std.proofs.Common.{ap, refl, sym, ◌∙◌}
use Rattle.std.specs.Prelude.{nat_eq}
use Rattle.std.specs.List.{position}
use Rattle.ts_psi.specs.PsiTables.{component_item}
use Rattle.plug_edit.specs.PmtChanges.{described_as, spoken}
use Rattle.plug_edit.specs.PmtEdit.{component_pid, is_on}
use Rattle.plug_edit.proofs.ChangingLemmas.{one_seen_at, stays_seen}
use Rattle.plug_edit.proofs.change_components.set_language.Goals as goal

pub returns-in_default : goal.returns-in_default
returns-in_default c =
    stays_seen component_item (is_on c.args.pid) (λ component. nat_eq (component_pid component) c.args.pid) (described_as (spoken c.args.code.now)) (λ x. refl) c.args.components.now.items
    (sym c.in_default.is ∙ c.place_of.ensures.place ∙ ap (position (is_on c.args.pid)) c.deref.ensures.value)

pub returns : goal.returns
returns c =
    one_seen_at component_item (is_on c.args.pid) (λ component. nat_eq (component_pid component) c.args.pid) (described_as (spoken c.args.code.now)) c.in_ok-components.field-0 c.index.result.now (λ x. refl) c.args.components.now.items c.in-Some.place
    (sym c.in-Some.is ∙ c.place_of.ensures.place ∙ ap (position (is_on c.args.pid)) c.deref.ensures.value)
    (c.in_ok-components.ensures ∙ ap (λ x. described_as (spoken c.args.code.now) (component_item x)) (c.in_ok-component.ensures ∙ c.index.ensures))
