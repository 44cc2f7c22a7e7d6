use Rattle.std.proofs.Common.{List, refl, ap, sym, ◌∙◌, ◌++◌, append-nil, take, drop}
use Rattle.chain_model.specs.PluginRule.{passes}
use Rattle.plugin_trait.specs.SilentRule.{silent_rule}
use Rattle.plugin_trait.specs.declared.line.Line.{Line}
use Rattle.plugin_trait.proofs.Saying.{silent-placed_after}
use Rattle.chain_plays.proofs.no_plugin.NoPluginPlugin.note.Goals as goal

pub returns-clause-gives : goal.returns-clause-gives
returns-clause-gives c = λ history mark holds le within.
    let none = silent-placed_after (silent_rule (λ _ packet. passes packet)) (take mark history) (drop mark (take c.args._written history))
    (record { no_lines = λ _ _ _. refl; no_summary = λ _. refl }) in
    (within, sym (ap (λ (more : List Line). c.args._lines.now.items ++ more) none ∙ append-nil c.args._lines.now.items))
