-- The rule of a plugin that reports nothing. This project's own rule.
use Rattle.std.specs.Prelude.{ℕ, List, [], false}
use Rattle.ts_packet.specs.declared.cell.Cell.{Cell}
use Rattle.chain_model.specs.PluginRule.{PluginRule, RuleOutcome}

-- the rule that only says what becomes of a packet and of the labels of its cell: it has no lines and no summary, and
-- never agrees to end
abbrev pub silent_rule_with : (List Cell → List ℕ → ℕ → RuleOutcome) → (List Cell → List ℕ → ℕ → ℕ) → PluginRule
silent_rule_with outcome labels = record {
  outcome_of = outcome;
  labels_of = labels;
  lines_of = λ _ _ _. [];
  summary_of = λ _. [];
  agrees = λ _. false;
  has_fault = λ _. false;
}

-- the silent rule that ignores labels and leaves them as they are
abbrev pub silent_rule : (List Cell → List ℕ → RuleOutcome) → PluginRule
silent_rule outcome = silent_rule_with (λ history packet _. outcome history packet) (λ _ _ labels. labels)
