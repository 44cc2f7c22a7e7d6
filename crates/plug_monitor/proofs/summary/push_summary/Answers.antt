use Rattle.std.proofs.Common.{ap, ◌∙◌}
use Rattle.plug_monitor.specs.Counting.{counted}
use Rattle.plug_monitor.specs.MonitorTexts.{all_text}
use Rattle.plug_monitor.proofs.Summing.{summary-told}
use Rattle.plug_monitor.proofs.summary.push_summary.Goals as goal

pub returns : goal.returns
returns c =
    summary-told c.args.conf.now (counted c.args.counts.now) c.args.cut c.args.counts.now.all _ _ _ _ _ _ c.in_ok-push_first.ensures c.in_ok-push_second.ensures
    c.in_ok-push_third.ensures (c.in_ok-text.ensures ∙ ap all_text c.all.ensures) c.in_ok-push_line.ensures
