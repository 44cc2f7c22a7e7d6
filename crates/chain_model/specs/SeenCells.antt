-- What a plugin sees that is shown packets with some labels alone, and what its rule is then.
-- This project's own rule.
use Rattle.std.specs.Prelude.{ℕ, List, [], map, if◌then◌else◌}
use Rattle.ts_packet.specs.declared.cell.Cell.{Cell}
use Rattle.ts_packet.specs.Cells.{Live, Dropped}
use Rattle.ts_packet.specs.Labels.{shares_label}
use Rattle.chain_model.specs.PluginRule.{PluginRule, passes}

-- a live cell with none of the labels is seen as a dropped one
abbrev pub sees : ℕ → Cell → Cell
sees only (Live packet labels) = if shares_label labels only then Live packet labels else Dropped
sees only Dropped = Dropped

-- a history as the plugin sees it: no cell changes its position
abbrev pub seen : ℕ → List Cell → List Cell
seen only cells = map (sees only) cells

-- the rule of a plugin that sees packets with these labels alone: what it does not see passes as it is and with its
-- labels, and is no part of what the plugin reports, counts or agrees to
abbrev pub only_rule : ℕ → PluginRule → PluginRule
only_rule only rule = record {
  outcome_of = λ history packet labels.
      if shares_label labels only then rule.outcome_of (seen only history) packet labels else passes packet;
  labels_of = λ history packet labels.
      if shares_label labels only then rule.labels_of (seen only history) packet labels else labels;
  lines_of = λ history packet labels.
      if shares_label labels only then rule.lines_of (seen only history) packet labels else [];
  summary_of = λ history. rule.summary_of (seen only history);
  agrees = λ history. rule.agrees (seen only history);
  has_fault = λ history. rule.has_fault (seen only history);
}
