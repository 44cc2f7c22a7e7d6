use Rattle.ts_fields.specs.Bodies.{page, body_held}
use Rattle.test_low.proofs.fields.again.Goals as goal

pub write_body-requires-clause-shaped : goal.write_body-requires-clause-shaped
write_body-requires-clause-shaped c =
    c.fit_page_is_shaped.ensures.fit (page c.args.layout.now) (body_held c.in_ok-body.body) c.in_ok-body.ensures.fits
