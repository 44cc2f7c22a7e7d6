use Rattle.std.proofs.Common.{◌≡◌, ◌∙◌, refl, arith, pos, w32, FitsSigned, to_z, of_z}
use Rattle.std.proofs.lemmas.Int.{to_z_pos}
use Rattle.std.proofs.Math.Facts.{to_z-of_z}
use mir.Syntax.{w8, w16}
use Rattle.jiff_core.specs.Calendar.{IsDate}
use Rattle.jiff_core.proofs.SignedLemmas.{signed_arith}
use Rattle.ts_days.proofs.CalendarLemmas.{early, no_day, found, date_is_day, day_is_date, same_date}
use Rattle.ts_days.proofs.calendar.number_of_day.Goals as goal

pub returns-then-written-lt1858 : goal.returns-then-written-lt1858
returns-then-written-lt1858 c = early c.args.written c.if-written-lt1858.true

pub returns-in-Ok : goal.returns-in-Ok
returns-in-Ok c =
    let d = c.args.written in
    let e = c.to_unix_epoch_day.result in
    let year : to_z w16 d.year ≡ pos d.year = to_z_pos w16 d.year (omega (arith, c.requires.year)) in
    let month : to_z w8 d.month ≡ pos d.month = to_z_pos w8 d.month (omega (arith, c.requires.month)) in
    let day : to_z w8 d.day ≡ pos d.day = to_z_pos w8 d.day (omega (arith, c.requires.day)) in
    let date : IsDate (pos d.year) (pos d.month) (pos d.day) = rw (year, month, day) at (c.in-Ok.ensures.succeeds.0 refl) in
    let fit : FitsSigned w32 e = omega (arith, signed_arith, c.to_unix_epoch_day.ensures.bound) in
    let back : to_z w32 (of_z w32 e) ≡ e = to_z-of_z fit in
    let same = same_date d c.in-Ok.date.year c.in-Ok.date.month c.in-Ok.date.day (c.in-Ok.ensures.value.0 ∙ year) (c.in-Ok.ensures.value.1 ∙ month) (c.in-Ok.ensures.value.2 ∙ day) in
    found d e c.number_of_epoch_day.result (date_is_day d date) c.if-written-lt1858.false (c.to_unix_epoch_day.ensures.value ∙ same)
    (rw back at c.number_of_epoch_day.ensures.some) (rw back at c.number_of_epoch_day.ensures.none)

pub returns-in-Err : goal.returns-in-Err
returns-in-Err c =
    let d = c.args.written in
    let year : to_z w16 d.year ≡ pos d.year = to_z_pos w16 d.year (omega (arith, c.requires.year)) in
    let month : to_z w8 d.month ≡ pos d.month = to_z_pos w8 d.month (omega (arith, c.requires.month)) in
    let day : to_z w8 d.day ≡ pos d.day = to_z_pos w8 d.day (omega (arith, c.requires.day)) in
    no_day d (λ is. let ok = (rw (year, month, day) at c.in-Err.ensures.succeeds.1) (day_is_date d c.requires.year is) in cc)
