use Rattle.std.proofs.Common.{◌+◌, drop, map, ap, ◌∙◌, arith}
use Rattle.serde_json.specs.View.{members_view}
use Rattle.ts_fields.specs.Layout.{rows_of, held}
use Rattle.ts_jtree.specs.Shown.{put_attributes, are_shown}
use Rattle.ts_jtree.proofs.ShownLemmas.{held_at, shown_more, shown_done, shown_first}
use Rattle.ts_jtree.proofs.shown.show_attributes.Goals as goal

pub show_attribute-requires : goal.show_attribute-requires
show_attribute-requires c =
    let found = held_at c.value_at.result c.args.values.now c.loop-field.next c.value_at.ensures in
    (shown_first c.args.rows.now c.loop-field.field-index _ (map held c.args.values.now) c.loop-field.next _ c.loop-field-test.true found c.loop-field.invariant.shown).0

pub loop-field-preserved : goal.loop-field-preserved
loop-field-preserved c =
    let found = held_at c.value_at.result c.args.values.now c.loop-field.next c.value_at.ensures in
    let step = shown_more c.args.rows.now c.loop-field.field-index _ (map held c.args.values.now) c.loop-field.next _ (members_view c.loop-field.members.entries) (members_view c.show_attribute.new.members.entries) _ c.loop-field-test.true found c.loop-field.invariant.written c.in_ok-show_attribute.ensures in
    let first = shown_first c.args.rows.now c.loop-field.field-index _ (map held c.args.values.now) c.loop-field.next _ c.loop-field-test.true found c.loop-field.invariant.shown in
    record {
      shown = ap (λ n. are_shown (rows_of (drop (c.loop-field.field-index + 1) c.args.rows.now)) (drop (c.loop-field.next + n) (map held c.args.values.now))) c.holds-next.ensures.value ∙ first.1;
      few = omega (arith, c.holds-next.ensures.few);
      written = ap (λ n. put_attributes (rows_of (drop (c.loop-field.field-index + 1) c.args.rows.now)) (drop (c.loop-field.next + n) (map held c.args.values.now)) (members_view c.show_attribute.new.members.entries)) c.holds-next.ensures.value ∙ step;
    }

pub returns : goal.returns
returns c = shown_done c.args.rows.now c.loop-field.field-index (drop c.loop-field.next (map held c.args.values.now)) _ _ c.loop-field-test.false c.loop-field.invariant.written
