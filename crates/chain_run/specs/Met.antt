-- How far plugins met the lists of a chain. This project's own rule.
use Rattle.std.specs.Prelude.{◌≡◌, ℕ, suc, ◌≤◌, List, [], ◌∷◌, length, take}
use Rattle.ts_packet.specs.declared.cell.Cell.{Cell}
use Rattle.chain_model.specs.PluginRule.{PluginRule}
use Rattle.chain_model.specs.Apply.{StageList}
use Rattle.chain_model.specs.StageLists.{stage_list}

-- a plugin met at least the first `cut` cells of a list, and was given no mark above the cut
pub record MetTo {P : Type 0} (stands : P → List Cell → ℕ → Type 0) (plugin : P) (list : List Cell)
    (cut : ℕ) : Type 0 where
  pub history : List Cell
  pub mark : ℕ
  pub holds : stands plugin history mark
  pub told : mark ≤ cut
  pub reach : cut ≤ length history
  pub same : take cut history ≡ take cut list

-- each plugin met the first `cut` cells of the list of the stage before it; the first of them comes after stage `j`
abbrev pub AllMetTo : {P : Type 0} → (P → List Cell → ℕ → Type 0) → List PluginRule → StageList → ℕ → ℕ
    → List P → Type 0
AllMetTo stands rules input cut j [] = Unit {0}
AllMetTo stands rules input cut j (plugin ∷ plugins) =
    MetTo stands plugin (stage_list rules input j).cells cut × AllMetTo stands rules input cut (suc j) plugins

-- a plugin met exactly the first `count` cells of a list, those before the cut among them, and was given no mark above the cut
pub record MetFirst {P : Type 0} (stands : P → List Cell → ℕ → Type 0) (plugin : P) (list : List Cell)
    (count cut : ℕ) : Type 0 where
  pub mark : ℕ
  pub holds : stands plugin (take count list) mark
  pub told : mark ≤ cut
  pub reach : cut ≤ count
  pub within : count ≤ length list

-- each plugin met as many first cells of the list of the stage before it as its own stage gave: stage `k` gave `gave k`
abbrev pub AllMetFirst : {P : Type 0} → (P → List Cell → ℕ → Type 0) → List PluginRule → StageList
    → (ℕ → ℕ) → ℕ → ℕ → List P → Type 0
AllMetFirst stands rules input gave cut j [] = Unit {0}
AllMetFirst stands rules input gave cut j (plugin ∷ plugins) =
    MetFirst stands plugin (stage_list rules input j).cells (gave (suc j)) cut
    × AllMetFirst stands rules input gave cut (suc j) plugins
