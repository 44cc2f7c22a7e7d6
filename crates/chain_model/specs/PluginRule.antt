-- A plugin means a rule: functions of the history, with no state. This project's own rule.
-- The history is the list of all cells that the plugin met before, dropped ones too.
use Rattle.std.specs.Prelude.{ℕ, List, [], Bool, false}
use Rattle.ts_packet.specs.declared.cell.Cell.{Cell}
use Rattle.chain_model.specs.declared.reason.Reason.{Reason}

-- what a plugin does with a live packet
pub data RuleOutcome : Type 0 where
  -- the list goes on with this packet in the packet's place
  passes : (packet : List ℕ) → RuleOutcome
  -- the list goes on, and the cell's packet is dropped
  drops : RuleOutcome
  -- this packet is the last of the list
  lasts : (packet : List ℕ) → RuleOutcome
  -- the list ends before the packet
  stops : RuleOutcome
  -- the list ends before the packet, which is refused
  refuses : (reason : Reason) → RuleOutcome

-- what a plugin is: what becomes of a live packet with its labels, the labels that its cell has then, the lines
-- that the plugin gives at the packet's position, its summary over a history, whether it agrees to end after that
-- history, and whether a run that is cut there has a fault: one that the plugin reports, or that it found nothing to do
pub record PluginRule : Type 0 where
  pub outcome_of : List Cell → List ℕ → ℕ → RuleOutcome
  pub labels_of : List Cell → List ℕ → ℕ → ℕ
  pub lines_of : List Cell → List ℕ → ℕ → List (List ℕ)
  pub summary_of : List Cell → List (List ℕ)
  pub agrees : List Cell → Bool
  pub has_fault : List Cell → Bool

-- the rule that changes neither packets nor labels and reports nothing: that of the output
unfoldable pub passing_rule : PluginRule
passing_rule = record {
  outcome_of = λ _ packet _. passes packet;
  labels_of = λ _ _ labels. labels;
  lines_of = λ _ _ _. [];
  summary_of = λ _. [];
  agrees = λ _. false;
  has_fault = λ _. false;
}
