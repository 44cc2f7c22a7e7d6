use Rattle.std.proofs.Common.{arith}
use Rattle.plug_rate.specs.RateState.{conf_of}
use Rattle.plug_rate.proofs.Following.{follows_dropped}
use Rattle.plug_rate.proofs.rate.RatePlugin.pass_over.Goals as goal

pub returns-clause-meets : goal.returns-clause-meets
returns-clause-meets c = λ history mark w count.
    follows_dropped (conf_of c.args.self.now) _ _ _ history mark w (omega (arith, count, c.requires.in_range))
