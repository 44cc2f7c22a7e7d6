use Rattle.std.proofs.Common.{List, ap, sym, ◌∙◌, ◌++◌, append-nil, take, drop}
use Rattle.plugin_trait.specs.declared.line.Line.{Line}
use Rattle.plugin_trait.proofs.Saying.{silent-placed_after}
use Rattle.plugin_trait.proofs.silent.SilentPlugin.note.Goals as goal

pub returns-clause-gives : goal.returns-clause-gives
returns-clause-gives g c = λ history mark holds le within.
    let none = silent-placed_after (g.T.Steps.rule c.args.self.now.steps) (take mark history) (drop mark (take c.args._written history)) (g.met.T.Steps.quiet c.args.self.now.steps) in
    ((holds.0, within), sym (ap (λ (more : List Line). c.args._lines.now.items ++ more) none ∙ append-nil c.args._lines.now.items))
