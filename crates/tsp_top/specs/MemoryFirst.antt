-- Chains whose plugins take all their room before the run. This project's own rule.
use Rattle.std.specs.Prelude.{◌≡◌, ◌≢◌, ℕ, zero, suc, List, [], ◌∷◌, Some}
use Rattle.std.specs.List.{All}
use Rattle.plugin_settings.specs.declared.plugin_item.PluginItem.{PluginItem}
use Rattle.plugin_settings.specs.Items.{preallocated_of_item}
use Rattle.chain_model.specs.declared.cause.Cause.{Cause}
use Rattle.chain_model.specs.declared.cause.Cause.TheVariants.{NoMemory}

-- the plugin takes its room before the run, for as many positions as the buffer has
abbrev pub IsPreallocated : PluginItem → Type 0
IsPreallocated item = (buffer : ℕ) → preallocated_of_item item buffer ≡ Some buffer

abbrev pub ArePreallocated : List PluginItem → Type 0
ArePreallocated items = All IsPreallocated items

-- no stage ran out of memory
abbrev pub NoStageWants : Cause → Type 0
NoStageWants why = (k : ℕ) → why ≢ NoMemory k

-- the plugin after `j` others does not take its room before the run
abbrev pub TakesLater : List PluginItem → ℕ → Type 0
TakesLater [] j = ⊥
TakesLater (item ∷ items) zero = IsPreallocated item → ⊥
TakesLater (item ∷ items) (suc j) = TakesLater items j
