use Rattle.std.proofs.Common.{arith}
use Rattle.plug_watch.specs.CountConfOf.{conf_of}
use Rattle.plug_watch.proofs.CountStates.{counts_dropped}
use Rattle.plug_watch.proofs.count.CountPlugin.pass_over.Goals as goal

pub returns-clause-meets : goal.returns-clause-meets
returns-clause-meets c = λ history mark w count.
    counts_dropped (conf_of c.args.self.now) _ _ history mark w (omega (arith, count, c.requires.in_range))
