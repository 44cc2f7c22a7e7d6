use Rattle.std.proofs.Common.{ℕ, ◌+◌, ap, refl, arith}
use Rattle.plug_times.proofs.Stepping.{over100_fits, over40_fits, steps_with}
use Rattle.plug_times.proofs.clock_steps.ClockSteps.with.Goals as goal

pub overflow_add-result-2 : goal.overflow_add-result-2
overflow_add-result-2 c = omega (arith, over40_fits c.args.self c.requires, c.above.ensures.one)

pub overflow_add-result-3 : goal.overflow_add-result-3
overflow_add-result-3 c = omega (arith, over100_fits c.args.self c.requires, c.above-2.ensures.one)

pub returns : goal.returns
returns c = λ clocks stamp clock_is jumps_is is.
    steps_with c.args.self _ clocks stamp c.args.clock c.args.jumps c.step_between-step.result clock_is jumps_is is c.step_between-step.ensures
    refl refl c.greatest.ensures (ap (λ (n : ℕ). c.args.self.over40 + n) c.above.ensures.is) (ap (λ (n : ℕ). c.args.self.over100 + n) c.above-2.ensures.is)
