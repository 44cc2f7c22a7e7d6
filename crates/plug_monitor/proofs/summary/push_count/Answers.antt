use Rattle.std.proofs.Common.{ap₂, sym, ◌∙◌}
use Rattle.monitor_lines.specs.ErrorTexts.{count_text}
use Rattle.plug_monitor.specs.Counting.{counted}
use Rattle.plug_monitor.proofs.Summing.{count-silent, count-told}
use Rattle.plug_monitor.proofs.summary.push_count.Goals as goal

pub returns-then-not-is_asked : goal.returns-then-not-is_asked
returns-then-not-is_asked c =
    count-silent c.args.conf.now (counted c.args.counts.now) c.args.cut c.args.indicator c.args.lines.now.items (sym c.is_asked.ensures ∙ c.if-not-is_asked.true)

pub returns : goal.returns
returns c =
    count-told c.args.conf.now (counted c.args.counts.now) c.args.cut c.args.indicator c.args.lines.now.items _ _ (sym c.is_asked.ensures ∙ c.if-not-is_asked.false)
    (c.in_ok-text.ensures ∙ ap₂ count_text c.title.ensures c.of.ensures) c.in_ok-push_line.ensures
