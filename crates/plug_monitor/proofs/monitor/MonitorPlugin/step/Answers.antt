use Rattle.plug_monitor.proofs.monitor.MonitorPlugin.step.Goals as goal

pub returns-in-Ok-clause-meets : goal.returns-in-Ok-clause-meets
returns-in-Ok-clause-meets c = λ history mark w count. c.in-Ok.ensures.met history mark w count c.args._labels.now
