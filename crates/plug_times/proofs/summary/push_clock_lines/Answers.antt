use Rattle.std.proofs.Common.{sym, append-nil}
use Rattle.plugin_notes.specs.PidPackets.{numbers_below}
use Rattle.plug_times.proofs.Summing.{clock_lines_more}
use Rattle.plug_times.proofs.summary.push_clock_lines.Goals as goal

pub loop-pid-init : goal.loop-pid-init
unfolding numbers_below
loop-pid-init c = λ stamps stepped. sym (append-nil c.args.lines.now.items)

pub loop-pid-preserved : goal.loop-pid-preserved
loop-pid-preserved c = λ stamps stepped.
    clock_lines_more stamps _ c.args.cut c.loop-pid.pid c.on.result c.args.lines.now.items c.loop-pid.lines.items c.push_kept_line.new.lines.items
    stepped c.loop-pid-test.true c.on.ensures (c.loop-pid.invariant stamps stepped) c.in_ok-push_kept_line.ensures
