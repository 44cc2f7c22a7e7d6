use Rattle.plug_end.specs.UntilState.{conf_of}
use Rattle.plug_end.proofs.Ending.{counts_dropped}
use Rattle.plug_end.proofs.until.UntilPlugin.pass_over.Goals as goal

pub returns-clause-meets : goal.returns-clause-meets
returns-clause-meets c = λ history mark w count.
    counts_dropped (conf_of c.args.self.now) c.args.self.now.met c.args.self.now.starts c.args.self.now.clock history mark w
