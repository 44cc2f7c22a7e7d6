use Rattle.plug_monitor.proofs.Watching.{asked-from}
use Rattle.plug_monitor.proofs.watch.third_of.Goals as goal

pub returns : goal.returns
returns c = (asked-from c.args.conf.now 3 c.if-conf-lt3.false, c.in_ok-rows.ensures c.args.conf.now.pcr_pid)
