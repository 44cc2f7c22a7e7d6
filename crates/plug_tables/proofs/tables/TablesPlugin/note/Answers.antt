use Rattle.std.proofs.Common.{ap, ◌∙◌, ◌++◌, List}
use Rattle.plugin_trait.specs.declared.line.Line.{Line}
use Rattle.plug_tables.specs.TablesStands.{rule_in}
use Rattle.plug_tables.proofs.ToldLemmas.{below_is, gives}
use Rattle.plug_tables.proofs.tables.TablesPlugin.note.Goals as goal

pub returns-clause-gives : goal.returns-clause-gives
returns-clause-gives c = λ history mark s le within.
    let stands = s.0 c.in_ok-check.ensures.unset in (
      (λ _. gives c.args.self.now.reader c.args.self.now.tids c.args.self.now.told.items _ history mark c.args.written stands le within c.in_ok-give_below.ensures.left, within),
      c.in_ok-give_below.ensures.given
          ∙ ap (λ (ls : List Line). c.args.lines.now.items ++ ls) (below_is (rule_in c.args.self.now) c.args.self.now.told.items history mark c.args.written stands.lines le within),
    )
