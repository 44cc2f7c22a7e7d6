use Rattle.std.proofs.Common.{arith}
use Rattle.plug_monitor.proofs.Monitoring.{monitors_dropped}
use Rattle.plug_monitor.proofs.monitor.MonitorPlugin.pass_over.Goals as goal

pub returns-clause-meets : goal.returns-clause-meets
returns-clause-meets c = λ history mark w count.
    monitors_dropped c.args.self.now.conf _ _ _ _ history mark w (omega (arith, count, c.requires.in_range))
    (λ h watching. c.a_dropped_cell_leaves_the_watch.ensures c.args.self.now.conf c.args.self.now.watch h watching)
