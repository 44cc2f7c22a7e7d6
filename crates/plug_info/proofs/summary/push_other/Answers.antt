use Rattle.std.proofs.Common.{◌++◌, List, ℕ, ap, ◌∙◌}
use Rattle.plugin_trait.specs.PlacedLines.{placed_at}
use Rattle.plug_info.proofs.LineLemmas.{if_other}
use Rattle.plug_info.proofs.summary.push_other.Goals as goal

pub returns : goal.returns
returns c =
    c.in_ok-push_line.ensures
    ∙ ap (λ (ts : List (List ℕ)). c.args.lines.now.items ++ placed_at c.args.cut ts)
    (if_other c.args.pat c.args.sdt _ _ c.if-pat-sdt.false (c.of.ensures ∙ c.in_ok-text.ensures.ok))
