use Rattle.std.proofs.Common.{ap, ◌∙◌, refl}
use Rattle.plug_analyze.specs.AnalyzeRule.{pid_text}
use Rattle.plug_analyze.proofs.SummaryLemmas.{pid_more}
use Rattle.plug_analyze.proofs.summary.push_pids.Goals as goal

pub loop-pid-preserved : goal.loop-pid-preserved
loop-pid-preserved c = λ cells t.
    pid_more cells c.args.cut c.args.pids.now c.loop-pid.pid-index _ c.args.lines.now.items c.loop-pid.lines.items c.push_line.new.lines.items c.in_ok-text.text
    c.loop-pid-test.true refl (c.in_ok-text.ensures ∙ ap (pid_text _) (c.counts_on.ensures cells t)) (c.loop-pid.invariant cells t) c.in_ok-push_line.ensures
