use Rattle.std.proofs.Common.{arith}
use Rattle.plug_rate.specs.RateState.{conf_of}
use Rattle.plug_rate.proofs.Following.{follows_met, has_room}
use Rattle.plug_rate.proofs.rate.Rate.meet.Goals as goal

pub measure-measure-requires-clause-room : goal.measure-measure-requires-clause-room
measure-measure-requires-clause-room c = has_room (conf_of c.args.self.now) _ _ _ _ _ c.requires.met.holds

pub with-meter-requires-clause-room : goal.with-meter-requires-clause-room
with-meter-requires-clause-room c = has_room (conf_of c.args.self.now) _ _ _ _ _ c.requires.met.holds

pub returns-clause-met : goal.returns-clause-met
returns-clause-met c = λ history mark w count labels.
    follows_met (conf_of c.args.self.now) _ _ _ history mark w c.args.packet.now labels c.args.at c.after-clock.result c.measure-measure.result
    c.judged-judged.result c.args.counts c.outside_with-is_outside.result _ _ (omega (arith, count, c.requires.in_range)) count
    c.after-clock.ensures.is c.measure-measure.ensures c.judged-judged.ensures c.requires.selected c.outside_with-is_outside.ensures
    c.in_ok-push_if_any.ensures.ok c.with-meter.ensures
