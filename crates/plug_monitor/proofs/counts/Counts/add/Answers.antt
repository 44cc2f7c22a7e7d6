use Rattle.std.proofs.Common.{sym}
use Rattle.plug_monitor.proofs.CountLemmas.{each_more}
use Rattle.plug_monitor.proofs.counts.Counts.add.Goals as goal

pub returns-clause-each : goal.returns-clause-each
returns-clause-each c = λ before is. each_more c.args.self.now.each before c.args.error.now _ is c.rank.ensures.range (sym c.rank.ensures.is)
