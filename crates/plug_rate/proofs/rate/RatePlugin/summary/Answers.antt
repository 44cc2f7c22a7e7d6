use Rattle.std.proofs.Common.{ℕ, List, [], ◌∷◌, ◌++◌, ap, ◌∙◌}
use Rattle.std.proofs.lemmas.Result.{on_ok_weaker}
use Rattle.plugin_notes.specs.NotesKept.{notes_below}
use Rattle.plugin_trait.specs.PlacedLines.{placed_at}
use Rattle.plug_rate.specs.Measures.{judged_on}
use Rattle.plug_rate.specs.RateState.{conf_of}
use Rattle.plug_rate.proofs.Adding.{summary_is}
use Rattle.plug_rate.proofs.rate.RatePlugin.summary.Goals as goal

pub returns-clause-said : goal.returns-clause-said
returns-clause-said c = λ history mark w.
    on_ok_weaker c.push_summary.result
    (λ is. is ∙ ap (λ (text : List ℕ). c.args.lines.now.items ++ placed_at c.args.at (text ∷ []))
    (summary_is c.args.self.now.sums (notes_below (judged_on (conf_of c.args.self.now)) mark history) w.summed))
    c.push_summary.ensures
