use Rattle.std.proofs.Common.{arith}
use Rattle.plug_watch.specs.ContinuityConfOf.{conf_of}
use Rattle.plug_watch.proofs.Watching.{watches_dropped}
use Rattle.plug_watch.proofs.continuity.ContinuityPlugin.pass_over.Goals as goal

pub returns-clause-meets : goal.returns-clause-meets
returns-clause-meets c = λ history mark w count.
    watches_dropped (conf_of c.args.self.now) _ _ _ history mark w (omega (arith, count, c.requires.in_range))
