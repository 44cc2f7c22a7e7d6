use Rattle.std.proofs.Common.{List, ◌++◌, ℕ, map, take, ap, ◌∙◌}
use Rattle.plugin_trait.specs.PlacedLines.{placed_at}
use Rattle.plugin_trait.specs.declared.line.Line.{Line}
use Rattle.plugin_trait.proofs.Saying.{text_of, texts-placed_at}
use Rattle.tsp_top.proofs.live_report.summary_lines.Goals as goal

pub returns : goal.returns
returns g c = λ history stands.
    let said : List (List ℕ) = (g.P.Plugin.rule c.args.heard.now.plugin).summary_of (take c.args.cut history) in
    ap (λ (xs : List Line). map text_of xs)
    (c.in_ok-summary.ensures.said history c.args.cut stands ∙ ap (λ (xs : List Line). xs ++ placed_at c.args.cut said) c.new-lines.ensures.items)
    ∙ texts-placed_at c.args.cut said
