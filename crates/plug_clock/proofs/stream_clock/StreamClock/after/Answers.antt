use Rattle.std.proofs.Common.{ℕ, ap, sym, ◌∙◌}
use Rattle.plug_clock.specs.StreamClock.{clock_after, clock_met}
use Rattle.plug_clock.specs.declared.stream_clock.StreamClock.{StreamClock}
use Rattle.plug_clock.proofs.Ticking.{clock-live}
use Rattle.plug_clock.proofs.stream_clock.StreamClock.after.Goals as goal

pub returns-clause-follows : goal.returns-clause-follows
returns-clause-follows c = λ pid history labels is count.
    c.after_packet.ensures
    ∙ (ap (λ (clock : StreamClock). clock_met clock c.args.at c.args.packet.now) is
    ∙ (ap (λ (n : ℕ). clock_met (clock_after pid history) n c.args.packet.now) (sym count)
    ∙ sym (clock-live pid history c.args.packet.now labels)))
