-- The stages of a set: the bits of a number. This project's own rule.
use Rattle.std.specs.Prelude.{◌≡◌, ℕ, zero, suc, ◌<◌, ◌≤◌, ◌==◌, List, [], ◌∷◌, ◌++◌, Bool, true, false, if◌then◌else◌, nat_lt, ◌&&◌}
use Rattle.std.specs.Int.{bit_at}
use Rattle.chain_core.specs.declared.stage_set.StageSet.{StageSet}

-- whether the stage is in the set
unfoldable pub has_stage : StageSet → ℕ → Bool
has_stage set k = nat_lt k 64 && bit_at set.bits k == 1

-- the stages of the set below a number, the least first
unfoldable pub stages_below : ℕ → StageSet → List ℕ
stages_below zero set = []
stages_below (suc n) set = stages_below n set ++ (if has_stage set n then n ∷ [] else [])

-- the stages of the set, the least first
unfoldable pub stages_of : StageSet → List ℕ
stages_of set = stages_below 64 set

-- this stage is the least one of the set from a number on
pub record IsNextFrom (set : StageSet) (from stage : ℕ) : Type 0 where
  pub from_on : from ≤ stage
  pub within : stage < 64
  pub has : has_stage set stage ≡ true
  pub none_before : (k : ℕ) → from ≤ k → k < stage → has_stage set k ≡ false
