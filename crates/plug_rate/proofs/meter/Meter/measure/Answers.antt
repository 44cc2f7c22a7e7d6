use Rattle.std.proofs.Common.{◌≤◌, Option, IfSome, sym, subst, ◌∙◌, arith}
use Rattle.plug_rate.specs.declared.point.Point.{Point}
use Rattle.plug_rate.proofs.Rating.{is_later}
use Rattle.plug_rate.proofs.meter.Meter.measure.Goals as goal

pub measure_from-requires : goal.measure_from-requires
measure_from-requires c =
    let begun : c.in-Some.start.time ≤ c.args.self.now.clock.time =
    subst (λ (o : Option Point). IfSome o (λ p. p.time ≤ c.args.self.now.clock.time)) c.in-Some.is c.requires.room.begun in
    omega (
      arith,
      begun,
      c.time.ensures,
      c.time-2.ensures,
      is_later c.args.interval c.time.result c.time-2.result c.requires.some (sym c.has_passed.ensures ∙ c.if-not-has_passed.false),
    )
