-- The lists of a chain: stage 0 is the input, stages 1 to n are the plugins, stage n + 1 is the output.
-- This project's own rule.
use Rattle.std.specs.Prelude.{ℕ, zero, suc, List, [], ◌∷◌, length}
use Rattle.chain_model.specs.PluginRule.{PluginRule, passing_rule}
use Rattle.chain_model.specs.Apply.{StageList, apply}

-- the rule of the plugin after `j` others; past the last one everything passes
abbrev pub rule_after : List PluginRule → ℕ → PluginRule
rule_after [] j = passing_rule
rule_after (rule ∷ rules) zero = rule
rule_after (rule ∷ rules) (suc j) = rule_after rules j

-- the list that stage `j` gives, where the input gives `input`
abbrev pub stage_list : List PluginRule → StageList → ℕ → StageList
stage_list rules input zero = input
stage_list rules input (suc j) = apply (rule_after rules j) (stage_list rules input j).cells

-- the list that reaches the output
abbrev pub end_list : List PluginRule → StageList → StageList
end_list rules input = stage_list rules input (length rules)
