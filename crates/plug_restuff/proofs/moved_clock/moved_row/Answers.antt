use Rattle.std.proofs.Common.{ap, sym, ◌∙◌}
use Rattle.std.proofs.lemmas.Bool.{OnTrue_at}
use Rattle.ts_packet.specs.Pcr.{with_pcr}
use Rattle.plug_restuff.specs.MovedClock
use Rattle.plug_restuff.proofs.ClockLemmas.{time-there}
use Rattle.plug_restuff.proofs.moved_clock.moved_row.Goals as goal

pub returns-in-Some-clause-packet : goal.returns-in-Some-clause-packet
returns-in-Some-clause-packet c =
    let packet = c.args.first.row.packet in
    let move = MovedClock.moved_clock c.args.from c.args.to c.args.first.cell c.args.slot in
    let found = sym c.time_in.ensures ∙ c.in-Some.is in
    OnTrue_at (c.set_pcr.ensures.outcome ∙ time-there packet c.in-Some.clock found) c.set_pcr.ensures.row
    ∙ (ap (with_pcr packet) c.moved_clock.ensures.is
    ∙ ap (MovedClock.with_moved move packet) (sym found))
