use Rattle.std.proofs.Common.{sym, append-nil}
use Rattle.plugin_notes.specs.PidPackets.{numbers_below}
use Rattle.plug_watch.proofs.Summing.{pid_lines_more}
use Rattle.plug_watch.proofs.summary.push_pid_lines.Goals as goal

pub loop-pid-init : goal.loop-pid-init
unfolding numbers_below
loop-pid-init c = λ packets tally. sym (append-nil c.args.lines.now.items)

pub loop-pid-preserved : goal.loop-pid-preserved
loop-pid-preserved c = λ packets tally.
    pid_lines_more packets _ _ c.args.cut c.loop-pid.pid c.count_on.result c.args.lines.now.items c.loop-pid.lines.items c.push_pid_line.new.lines.items
    tally c.loop-pid-test.true c.count_on.ensures (c.loop-pid.invariant packets tally) c.in_ok-push_pid_line.ensures
