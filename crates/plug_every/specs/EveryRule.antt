-- A plugin that gives its summary at each so-many-th packet too. This project's own rule.
use Rattle.std.specs.Prelude.{ℕ, ◌+◌, ◌%◌, ◌==◌, List, [], ◌∷◌, ◌++◌, Bool, Option, None, Some, codes, if◌then◌else◌}
use Rattle.std.specs.Fmt.{decimal}
use Rattle.ts_packet.specs.declared.cell.Cell.{Cell}
use Rattle.ts_packet.specs.Cells.{Live}
use Rattle.chain_model.specs.PluginRule.{PluginRule}
use Rattle.plugin_trait.specs.LiveCount.{live_count}

-- the live packet after this history is the `n`-th that the plugin sees, the `2 n`-th and so on
abbrev pub is_due : ℕ → List Cell → Bool
is_due n history = (live_count history + 1) % n == 0

-- the line that says how many packets the plugin has seen
abbrev pub so_far_text : ℕ → List ℕ
so_far_text seen = codes "so far " ++ (decimal seen ++ codes " packets")

-- what is said behind the last of these cells: how many packets they are, where that is said, and the summary of a run that
-- is cut there
abbrev pub summed_up : Bool → PluginRule → List Cell → List (List ℕ)
summed_up counts rule met = (if counts then so_far_text (live_count met) ∷ [] else []) ++ rule.summary_of met

-- the rule with this at each `n`-th live packet, behind the packet's own lines; all else is as it was
abbrev pub every_rule : ℕ → Bool → PluginRule → PluginRule
every_rule n counts rule = record {
  outcome_of = rule.outcome_of;
  labels_of = rule.labels_of;
  lines_of = λ history packet labels.
      rule.lines_of history packet labels
      ++ (if is_due n history then summed_up counts rule (history ++ Live packet labels ∷ []) else []);
  summary_of = rule.summary_of;
  agrees = rule.agrees;
  has_fault = rule.has_fault;
}

-- the rule of a plugin that may have such summaries
abbrev pub rule_every : Option ℕ → Bool → PluginRule → PluginRule
rule_every None counts rule = rule
rule_every (Some n) counts rule = every_rule n counts rule
