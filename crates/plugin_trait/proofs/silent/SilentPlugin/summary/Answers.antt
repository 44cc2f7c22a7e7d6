use Rattle.std.proofs.Common.{List, ℕ, ap, sym, ◌∙◌, ◌++◌, append-nil, take}
use Rattle.plugin_trait.specs.PlacedLines.{placed_at}
use Rattle.plugin_trait.proofs.silent.SilentPlugin.summary.Goals as goal

pub returns-clause-said : goal.returns-clause-said
returns-clause-said g c = λ history mark holds.
    let none = (g.met.T.Steps.quiet c.args.self.now.steps).no_summary (take mark history) in
    sym (ap (λ (texts : List (List ℕ)). c.args._lines.now.items ++ placed_at c.args._at texts) none ∙ append-nil c.args._lines.now.items)
