use Rattle.std.proofs.Common.{List, ℕ, ◌++◌, take, ap, ◌∙◌}
use Rattle.plugin_trait.specs.PlacedLines.{placed_at}
use Rattle.plug_monitor.proofs.ErrorLemmas.{summary_is}
use Rattle.plug_monitor.proofs.monitor.MonitorPlugin.summary.Goals as goal

pub returns-clause-said : goal.returns-clause-said
returns-clause-said c = λ history mark w.
    c.in_ok-push_summary.ensures
    ∙ ap (λ (texts : List (List ℕ)). c.args.lines.now.items ++ placed_at c.args.at texts)
    (summary_is c.args.self.now.conf c.args.self.now.counts (take mark history) w.counted)
