use Rattle.std.proofs.Common.{List, ◌++◌, ap, ◌∙◌}
use Rattle.plugin_trait.specs.declared.line.Line.{Line}
use Rattle.plug_monitor.proofs.Monitoring.{can_fold, given_is, monitors_to}
use Rattle.plug_monitor.proofs.monitor.MonitorPlugin.note.Goals as goal

pub fold_below-requires : goal.fold_below-requires
fold_below-requires c = can_fold c.args.self.now.conf _ _ _ _ _ _ c.requires.holds

pub returns-clause-gives : goal.returns-clause-gives
returns-clause-gives c = λ history mark w le within.
    let folds = c.fold_below.ensures.folds in (
      monitors_to c.args.self.now.conf _ _ _ _ history mark w c.args.written _ le within _ folds,
      c.in_ok-push_lines_below.ensures.ok
          ∙ ap (λ (lines : List Line). c.args.lines.now.items ++ lines) (given_is c.args.self.now.conf _ _ _ _ history mark w c.args.written _ le within folds.takes),
    )
