use Rattle.std.proofs.Common.{take, ap, nat_lt, ◌∙◌}
use Rattle.plug_monitor.proofs.ErrorLemmas.{all_is}
use Rattle.plug_monitor.proofs.monitor.MonitorPlugin.has_fault.Goals as goal

pub returns : goal.returns
returns c = λ history w. ap (nat_lt 0) (c.all.ensures ∙ all_is c.args.self.now.conf c.args.self.now.counts (take c.args._cut history) w.counted)
