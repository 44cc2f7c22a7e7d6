use Rattle.std.proofs.Common.{◌%◌, ◌++◌, length, ap, ◌∙◌}
use Rattle.ts_fields.specs.Bodies.{page, body_held, spell_page}
use Rattle.ts_fields.proofs.LengthLemmas.{length-page}
use Rattle.ts_fields.proofs.body.write_body.Goals as goal

pub into_bytes-requires : goal.into_bytes-requires
into_bytes-requires c =
    ap (λ l. length l % 8) (c.in_ok-write_by_place.ensures ∙ ap (λ l. l ++ spell_page (page c.args.layout.now) (body_held c.args.body.now)) c.new-out.ensures)
    ∙ length-page (page c.args.layout.now) (body_held c.args.body.now) c.requires.sound c.requires.shaped
