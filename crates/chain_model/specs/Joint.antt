-- Joint termination: the greatest position to which every plugin that uses it has agreed.
-- This project's own rule.
use Rattle.std.specs.Prelude.{ℕ, zero, suc, max, List, [], ◌∷◌, ◌++◌, length, map, if◌then◌else◌, Option, None, Some}
use Rattle.ts_packet.specs.declared.cell.Cell.{Cell}
use Rattle.chain_model.specs.PluginRule.{PluginRule}
use Rattle.chain_model.specs.Apply.{StageList}
use Rattle.chain_model.specs.StageLists.{rule_after, stage_list}

-- the least number of cells after a history at which the rule agrees, counted with the history
abbrev pub agreement_after : PluginRule → List Cell → List Cell → Option ℕ
agreement_after rule history [] = if rule.agrees history then Some (length history) else None
agreement_after rule history (cell ∷ cells) =
    if rule.agrees history then Some (length history)
    else agreement_after rule (history ++ cell ∷ []) cells

-- the least number of cells of the list at which the rule agrees, if it ever does
abbrev pub agreement_of : PluginRule → List Cell → Option ℕ
agreement_of rule cells = agreement_after rule [] cells

-- the greatest of a number and of these, if each of these is known
abbrev pub greatest_with : ℕ → List (Option ℕ) → Option ℕ
greatest_with n [] = Some n
greatest_with n (None ∷ rest) = None
greatest_with n (Some m ∷ rest) = greatest_with (max n m) rest

-- the greatest of the users' numbers, if each of them is known and there is a user
abbrev pub greatest_if_all : List (Option ℕ) → Option ℕ
greatest_if_all [] = None
greatest_if_all (None ∷ rest) = None
greatest_if_all (Some n ∷ rest) = greatest_with n rest

-- the agreement of stage `j`, a plugin, over the list that it meets
abbrev pub agreement_at : List PluginRule → StageList → ℕ → Option ℕ
agreement_at rules input zero = None
agreement_at rules input (suc j) = agreement_of (rule_after rules j) (stage_list rules input j).cells

-- the joint position of the users, which are numbers of stages
abbrev pub joint_position : List PluginRule → StageList → List ℕ → Option ℕ
joint_position rules input users = greatest_if_all (map (agreement_at rules input) users)
