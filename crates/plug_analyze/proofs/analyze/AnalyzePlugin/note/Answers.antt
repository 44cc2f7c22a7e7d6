use Rattle.std.proofs.Common.{sym, ◌∙◌, refl, true≢false}
use Rattle.plug_analyze.specs.AnalyzeRule.{analyze_rule}
use Rattle.plug_analyze.proofs.Analyzing.{can_fold, analyzes_folded}
use Rattle.plug_analyze.proofs.WithoutLines.{none_between}
use Rattle.plug_analyze.proofs.analyze.AnalyzePlugin.note.Goals as goal

pub fold_below-requires : goal.fold_below-requires
fold_below-requires c =
    can_fold _ _ _ c.requires.history c.requires.mark (c.requires.holds.0 (sym c.is_set.ensures ∙ c.if-is_set.false))

pub returns-then-is_set-clause-gives : goal.returns-then-is_set-clause-gives
returns-then-is_set-clause-gives c = λ history mark s later within. (
  (λ works. absurd (true≢false (sym c.if-is_set.true ∙ (c.is_set.ensures ∙ works))), within),
  none_between analyze_rule (λ _ _ _. refl) history mark c.args.written c.args._lines.now.items,
)

pub returns-clause-gives : goal.returns-clause-gives
returns-clause-gives c = λ history mark s later within. (
  (
    λ _. analyzes_folded _ c.args.self.now.noted c.fold_below.new.self c.args.self.now.services c.fold_below-2.new.self history mark c.args.written (s.0 (sym c.is_set.ensures ∙ c.if-is_set.false)) later within
        c.fold_below.ensures.folds c.fold_below-2.ensures.folds c.fold_below-2.ensures.force,
    within,
  ),
  none_between analyze_rule (λ _ _ _. refl) history mark c.args.written c.args._lines.now.items,
)
