use Rattle.std.proofs.Common.{◌≤◌, ℕ, List, length, OnOk, sym, subst, ◌∙◌, refl, true≢false}
use Rattle.ts_packet.specs.declared.cell.Cell.{Cell}
use Rattle.plug_analyze.proofs.WithoutLines.{none_between}
use Rattle.plug_info.specs.InfoRule.{info_rule}
use Rattle.plug_info.specs.InfoStands.{conf_of}
use Rattle.plug_info.specs.MetState.{HasMet}
use Rattle.plug_info.proofs.info.InfoPlugin.note.Goals as goal

pub take_below-answer-requires : goal.take_below-answer-requires
take_below-answer-requires c = record {
  history = c.requires.history;
  mark = c.requires.mark;
  holds = c.requires.holds.0 (sym c.is_set.ensures ∙ c.if-is_set.false);
  not_below = c.requires.not_below;
  met = c.requires.met;
}

pub returns-then-is_set-clause-gives : goal.returns-then-is_set-clause-gives
returns-then-is_set-clause-gives c = λ history mark s later within. (
  (λ works. absurd (true≢false (sym c.if-is_set.true ∙ (c.is_set.ensures ∙ works))), within),
  none_between (info_rule (conf_of c.args.self.now)) (λ _ _ _. refl) history mark c.args.written c.args._lines.now.items,
)

pub returns-clause-gives : goal.returns-clause-gives
returns-clause-gives c =
    let met : (history : List Cell) (before : ℕ) → HasMet c.args.self.now.met history before → before ≤ c.args.written → c.args.written ≤ length history
    → HasMet c.take_below-answer.new.self history c.args.written =
    subst (λ r. OnOk r ((history : List Cell) (before : ℕ) → HasMet c.args.self.now.met history before → before ≤ c.args.written → c.args.written ≤ length history
    → HasMet c.take_below-answer.new.self history c.args.written)) (sym c.in_ok-note.ensures.same) c.take_below-answer.ensures.met in
    λ history mark s later within. (
      (λ _. met history mark (s.0 (sym c.is_set.ensures ∙ c.if-is_set.false)) later within, within),
      none_between (info_rule (conf_of c.args.self.now)) (λ _ _ _. refl) history mark c.args.written c.args._lines.now.items,
    )
