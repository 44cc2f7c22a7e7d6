use Rattle.plug_monitor.proofs.Watching.{clock-below}
use Rattle.plug_monitor.proofs.watch.Watch.new.Goals as goal

pub new-clock-requires : goal.new-clock-requires
new-clock-requires c = clock-below c.args.conf.now.pcr_pid c.requires.of_pid

pub returns : goal.returns
returns c = record {
  clocked = c.new-clock.ensures.fresh;
  referred = c.in_ok-referred.ensures;
  first = c.in_ok-first.ensures c.args.conf.now.pcr_pid;
  second = c.in_ok-second.ensures;
  third = c.in_ok-third.ensures;
}
