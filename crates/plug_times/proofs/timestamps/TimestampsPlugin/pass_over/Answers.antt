use Rattle.std.proofs.Common.{arith}
use Rattle.plug_times.specs.TimestampsState.{conf_of}
use Rattle.plug_times.proofs.Following.{follows_dropped}
use Rattle.plug_times.proofs.timestamps.TimestampsPlugin.pass_over.Goals as goal

pub returns-clause-meets : goal.returns-clause-meets
returns-clause-meets c = λ history mark w count.
    follows_dropped (conf_of c.args.self.now) _ _ history mark w (omega (arith, count, c.requires.in_range))
