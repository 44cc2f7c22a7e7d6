use Rattle.std.proofs.Common.{rules, ℕ, None, Some, length, ap, set, ◌∙◌, ◌≡◌, arith}
use Rattle.plug_clock.specs.StreamClock.{time_in}
use Rattle.monitor_pcrs.specs.PcrErrors.{clock_at}
use Rattle.monitor_pcrs.proofs.KeptClocks.{remembers_live, remembers_without}
use Rattle.monitor_pcrs.proofs.pcr_steps.PcrSteps.meet.Goals as goal

-- src/pcr_steps.rt:49:21
pub returns-in_err-clock-clause-stands : goal.returns-in_err-clock-clause-stands
returns-in_err-clock-clause-stands c = λ history labels r count.
    remembers_without c.args.self.now history r c.args.packet.now labels
    (let none : clock_at (length history) (time_in c.args.packet.now) ≡ None = search rules in none)

-- src/pcr_steps.rt:41:5
pub returns-clause-stands : goal.returns-clause-stands
returns-clause-stands c = λ history labels r count.
    remembers_live c.args.self.now history r c.args.packet.now labels c.in_ok-clock.clock
    (let some : clock_at (length history) (time_in c.args.packet.now) ≡ Some c.in_ok-clock.clock = search rules in some)
    (omega (arith, c.pid-2.ensures.range, c.pid-2.ensures.field)) _
    (c.set.ensures.values ∙ ap (λ (q : ℕ). set c.args.self.now.clocks q (Some c.in_ok-clock.clock)) c.pid-2.ensures.field)
    c.set.ensures.whole
