use Rattle.serde_json.specs.View.{members_view}
use Rattle.ts_fields.specs.Bodies.{body_held}
use Rattle.ts_json_descr.proofs.BodyLemmas.{generic_tagged}
use Rattle.ts_json_descr.proofs.reading.read_generic.Goals as goal

pub tagged-requires : goal.tagged-requires
tagged-requires c =
    rw c.deref.ensures.value (generic_tagged (members_view c.args.members.now.entries) (body_held c.in_ok-body.body) c.in_ok-body.ensures)
