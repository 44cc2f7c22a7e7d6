use Rattle.std.proofs.Common.{sym, ap, ◌∙◌, subst}
use Rattle.ts_jtree.specs.Faults.{IsRefusal}
use Rattle.ts_jtree.specs.declared.fault.JsonKind.TheVariants.{UnknownKey}
use Rattle.serde_json.specs.View.{members_view}
use Rattle.ts_fields.specs.Layout.{rows_of}
use Rattle.ts_jtree.specs.Elements.{keys_known, is_known}
use Rattle.ts_jtree.proofs.KeyLemmas.{keys_go_on, keys_stop, keys_done}
use Rattle.ts_jtree.proofs.element.check_keys.Goals as goal

pub loop-key-init : goal.loop-key-init
loop-key-init c =
    ap (λ es. keys_known (rows_of c.args.rows.now) (members_view c.args.members.now.entries) (members_view es)) (c.into_iter-key-iterator.ensures.into_iter_gives ∙ c.iter-key-items.ensures.rest)

pub returns-then-not-is_known_key : goal.returns-then-not-is_known_key
returns-then-not-is_known_key c =
    let ms = members_view c.args.members.now.entries in
    let rs = rows_of c.args.rows.now in
    let so_far = sym (ap (λ es. keys_known rs ms (members_view es)) c.in-Some.ensures.steps) ∙ c.loop-key.invariant in
    let unknown = ap (is_known rs ms) (sym c.deref.ensures) ∙ sym c.if-not-is_known_key.ensures in
    keys_stop c.refuse_key.result rs ms (c.in-Some.key.now, c.in-Some.field-0-1.now) _ _ so_far unknown (subst (λ k. IsRefusal c.refuse_key.result k UnknownKey) c.deref-then-not-is_known_key.ensures c.refuse_key.ensures)

pub loop-key-preserved : goal.loop-key-preserved
loop-key-preserved c =
    let ms = members_view c.args.members.now.entries in
    let rs = rows_of c.args.rows.now in
    let so_far = sym (ap (λ es. keys_known rs ms (members_view es)) c.in-Some.ensures.steps) ∙ c.loop-key.invariant in
    keys_go_on rs ms (c.in-Some.key.now, c.in-Some.field-0-1.now) _ _ so_far (ap (is_known rs ms) (sym c.deref.ensures) ∙ sym c.if-not-is_known_key.ensures)

pub returns : goal.returns
returns c =
    keys_done (rows_of c.args.rows.now) (members_view c.args.members.now.entries) _
    (sym (ap (λ es. keys_known (rows_of c.args.rows.now) (members_view c.args.members.now.entries) (members_view es)) c.in-None.ensures.steps.0) ∙ c.loop-key.invariant)
