use Rattle.serde_json.specs.View.{members_view}
use Rattle.ts_fields.specs.Bodies.{page, body_held}
use Rattle.ts_json_descr.proofs.BodyLemmas.{holding_shaped, typed_of}
use Rattle.ts_json_descr.proofs.reading.read_typed.Goals as goal

pub write_body-requires-clause-shaped : goal.write_body-requires-clause-shaped
write_body-requires-clause-shaped c =
    holding_shaped c.values_are_shaped.ensures (page c.args.layout.now) (members_view c.args.members.now.entries) (body_held c.in_ok-body.body) c.in_ok-body.ensures

pub returns : goal.returns
returns c =
    rw (typed_of (page c.args.layout.now) (members_view c.args.members.now.entries) (body_held c.in_ok-body.body) c.in_ok-bytes.bytes.items c.in_ok-body.ensures c.in_ok-bytes.ensures)
    (rw c.deref.ensures.value at c.sized_descr.ensures)
