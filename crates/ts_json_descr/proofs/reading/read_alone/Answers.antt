use Rattle.std.proofs.Common.{map, sym, ◌∙◌}
use Rattle.serde_json.specs.View.{members_view}
use Rattle.ts_fields.specs.Bodies.{page}
use Rattle.ts_fields.specs.Layout.{held, rows_of}
use Rattle.ts_groups.specs.Groups.{fields_alone, values_alone}
use Rattle.ts_json_descr.proofs.BodyLemmas.{alone_spelled, fields_shaped, typed_of}
use Rattle.ts_json_descr.proofs.reading.read_alone.Goals as goal

pub write_fields-requires-clause-shaped : goal.write_fields-requires-clause-shaped
write_fields-requires-clause-shaped c =
    rw c.deref.ensures.value (fields_shaped c.values_are_shaped.ensures (page c.args.layout.now) (rows_of c.args.rows.now) (members_view c.args.members.now.entries) (map held c.in_ok-values.values.items) c.in_ok-values.ensures)

pub returns : goal.returns
returns c =
    let rs = rows_of c.args.rows.now in
    let values = map held c.in_ok-values.values.items in
    rw (typed_of (fields_alone (page c.args.layout.now) rs) (members_view c.args.members.now.entries) (values_alone values) c.in_ok-bytes.bytes.items c.in_ok-values.ensures
    ((rw c.deref.ensures.value at c.in_ok-bytes.ensures) ∙ sym (alone_spelled (page c.args.layout.now) rs values)))
    (rw c.deref-2.ensures.value at c.sized_descr.ensures)
