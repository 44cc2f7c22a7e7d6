use Rattle.std.proofs.Common.{sym, append-nil}
use Rattle.plugin_notes.specs.PidPackets.{numbers_below}
use Rattle.plug_info.specs.InfoRule.{pid_lines}
use Rattle.plug_info.proofs.LineLemmas.{lines_more}
use Rattle.plug_info.proofs.summary.push_each_pid.Goals as goal

pub loop-pid-init : goal.loop-pid-init
unfolding numbers_below
loop-pid-init c = λ cells w u s. sym (append-nil _)

pub loop-pid-preserved : goal.loop-pid-preserved
loop-pid-preserved c = λ cells w u s.
    lines_more c.args.cut (pid_lines cells) c.loop-pid.pid c.args.lines.now.items c.loop-pid.lines.items c.push_pid.new.lines.items
    (c.loop-pid.invariant cells w u s) (c.in_ok-push_pid.ensures cells w u s)
