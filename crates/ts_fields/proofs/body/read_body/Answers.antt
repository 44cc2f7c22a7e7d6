use Rattle.ts_fields.specs.Bits.{bits_of}
use Rattle.ts_fields.specs.Bodies.{page, body_held}
use Rattle.ts_fields.proofs.BodyLemmas.{read_fits}
use Rattle.ts_fields.proofs.body.read_body.Goals as goal

pub returns-clause-fits : goal.returns-clause-fits
returns-clause-fits c = read_fits (page c.args.layout.now) (bits_of c.args.body.now) (body_held c.in_ok-values.values) c.in_ok-values.ensures
