use Rattle.std.proofs.Common.{◌∙◌, ap, sym}
use Rattle.serde_json.specs.View.{members_view}
use Rattle.ts_fields.specs.Bodies.{body_held, page, spell_page}
use Rattle.ts_fields.specs.Fitting.{are_bytes}
use Rattle.ts_json_descr.proofs.BodyLemmas.{holding_shaped}
use Rattle.ts_json_tables.proofs.ShortLemmas.{paged_made}
use Rattle.ts_json_tables.proofs.short_reading.read_paged.Goals as goal

pub write_body-requires-clause-shaped : goal.write_body-requires-clause-shaped
write_body-requires-clause-shaped c =
    holding_shaped c.values_are_shaped.ensures (page c.args.layout.now) (members_view c.args.members.now.entries) (body_held c.in_ok-body.body) c.in_ok-body.ensures

pub returns : goal.returns
returns c =
    let p = page c.args.layout.now in
    let h = body_held c.in_ok-body.body in
    paged_made p (members_view c.args.members.now.entries) h c.in_ok-payload.payload.items c.in_ok-body.ensures
    (c.written_rows_are_whole.ensures.bytes c.in_ok-payload.payload.items (spell_page p h) (sym (ap are_bytes c.deref.ensures.value) ∙ c.bytes_are_small.ensures) c.in_ok-payload.ensures)
    ∙ c.in_ok-table.ensures
