use Rattle.std.proofs.Common.{◌≡◌, ℕ, List, ◌++◌, sym, subst}
use Rattle.std.specs.Result.{OnOk}
use Rattle.plugin_trait.specs.PlacedLines.{placed_at}
use Rattle.plug_masked.specs.OnlyLabels.{shown}
use Rattle.plug_masked.proofs.ShownLemmas.{summary-shown}
use Rattle.plug_masked.proofs.masked_plugin.MaskedPluginPlugin.summary.Goals as goal

pub returns-clause-said : goal.returns-clause-said
returns-clause-said g c = λ history mark stands.
    let only = c.args.self.now.only in
    subst (λ (texts : List (List ℕ)). OnOk c.summary.result (c.summary.new.lines.items ≡ c.args.lines.now.items ++ placed_at c.args.at texts))
    (sym (summary-shown only (g.P.Plugin.rule c.args.self.now.plugin) mark history))
    (c.summary.ensures.said (shown only history) mark stands)
