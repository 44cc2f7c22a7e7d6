-- The cells that a plugin sees when `--only-label` may restrict it to packets with some labels. This project's own
-- rule.
use Rattle.std.specs.Prelude.{◌≡◌, ℕ, List, [], Bool, true, false, Option, None, Some}
use Rattle.ts_packet.specs.declared.cell.Cell.{Cell}
use Rattle.ts_packet.specs.Labels.{shares_label}
use Rattle.chain_model.specs.PluginRule.{PluginRule}
use Rattle.chain_model.specs.SeenCells.{only_rule, seen}

-- the rule of a plugin that sees every packet, or only those that have one of the labels
abbrev pub rule_for : Option ℕ → PluginRule → PluginRule
rule_for None rule = rule
rule_for (Some only) rule = only_rule only rule

-- a history as such a plugin sees it
abbrev pub shown : Option ℕ → List Cell → List Cell
shown None cells = cells
shown (Some only) cells = seen only cells

-- the plugin sees a packet with these labels
abbrev pub shows : Option ℕ → ℕ → Bool
shows None labels = true
shows (Some only) labels = shares_label labels only

-- a plugin that does not agree before any cell does not agree before it sees one
pub starts_open_for : (only : Option ℕ) (rule : PluginRule) → rule.agrees [] ≡ false
    → (rule_for only rule).agrees [] ≡ false
starts_open_for None rule open_at_first = open_at_first
starts_open_for (Some only) rule open_at_first = open_at_first
