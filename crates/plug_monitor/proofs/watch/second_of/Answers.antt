use Rattle.plug_monitor.proofs.Watching.{asked-from, has-rate}
use Rattle.plug_monitor.proofs.watch.second_of.Goals as goal

pub new-requires : goal.new-requires
new-requires c = has-rate c.args.conf.now.bitrate c.requires.bitrate

pub returns : goal.returns
returns c = (asked-from c.args.conf.now 2 c.if-conf-lt2.false, c.in_ok-rows.ensures c.args.conf.now.pcr_pid)
