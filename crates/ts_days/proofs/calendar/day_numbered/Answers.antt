use Rattle.std.proofs.Common.{arith, FitsSigned}
use Rattle.std.proofs.Math.Facts.{to_z-of_z}
use mir.Syntax.{w16}
use Rattle.jiff_core.proofs.DateLemmas.{civil}
use Rattle.jiff_core.proofs.SignedLemmas.{signed_arith}
use Rattle.ts_days.proofs.CalendarLemmas.{day_found, epoch_day_is}
use Rattle.ts_days.proofs.calendar.day_numbered.Goals as goal

pub overflow_cast-result : goal.overflow_cast-result
overflow_cast-result c =
    let date = c.in-Ok.date in
    let at = epoch_day_is c.args.number _ c.from.result c.from-2.result c.ranges.number.fits c.from.ensures c.from-2.ensures c.in-Ok.ensures.value in
    let found = day_found date.year date.month date.day c.args.number (civil date) c.ranges.number.fits at in
    let fit : FitsSigned w16 date.year = omega (arith, signed_arith, found.0, found.1) in
    rw (to_z-of_z fit) (omega (arith, signed_arith, found.0, found.1), omega (arith, found.2))

pub returns-clause-day : goal.returns-clause-day
returns-clause-day c =
    let date = c.in-Ok.date in
    let at = epoch_day_is c.args.number _ c.from.result c.from-2.result c.ranges.number.fits c.from.ensures c.from-2.ensures c.in-Ok.ensures.value in
    let found = day_found date.year date.month date.day c.args.number (civil date) c.ranges.number.fits at in
    let fit : FitsSigned w16 date.year = omega (arith, signed_arith, found.0, found.1) in
    rw (to_z-of_z fit, c.from-in-Ok.ensures, c.from-in-Ok-2.ensures) found.3
