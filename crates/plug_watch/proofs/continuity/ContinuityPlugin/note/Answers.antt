use Rattle.std.proofs.Common.{List, ◌++◌, ap, ◌∙◌, arith}
use Rattle.plugin_trait.specs.declared.line.Line.{Line}
use Rattle.plug_watch.specs.ContinuityConfOf.{conf_of}
use Rattle.plug_watch.proofs.Watching.{few_faults, given_is, watches_to}
use Rattle.plug_watch.proofs.continuity.ContinuityPlugin.note.Goals as goal

pub overflow_add-self : goal.overflow_add-self
overflow_add-self c = omega (arith, few_faults (conf_of c.args.self.now) _ _ _ _ _ c.requires.holds, c.drop_below.ensures.count)

pub returns-clause-gives : goal.returns-clause-gives
returns-clause-gives c = λ history mark w le within.
    let takes = c.drop_below.ensures.takes in (
      watches_to (conf_of c.args.self.now) _ _ _ history mark w c.args.written _ le within takes c.drop_below.result c.drop_below.ensures.count,
      c.in_ok-push_lines_below.ensures.ok
          ∙ ap (λ (lines : List Line). c.args.lines.now.items ++ lines) (given_is (conf_of c.args.self.now) _ _ _ history mark w c.args.written _ le within takes),
    )
