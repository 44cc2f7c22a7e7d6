use Rattle.std.proofs.Common.{rules}
use Rattle.ts_fields.specs.Bodies.{page, body_held}
use Rattle.ts_descr.specs.Descriptors.{IsWritten}
use Rattle.ts_descr.proofs.by_page.write_by_page.Goals as goal

pub returns-clause-back : goal.returns-clause-back
returns-clause-back c = λ pages found exact fit.
    let p = page c.args.layout.now in
    let h = body_held c.args.body.now in
    let written : IsWritten p h c.in_ok-descriptor.descriptor = search rules in
    c.written_is_read_back.ensures pages p h c.in_ok-descriptor.descriptor found c.requires.sound exact fit
    c.body-fits.ensures.fits written
