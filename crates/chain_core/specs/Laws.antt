-- What the layers above need of the machine, visit by visit. This project's own rule.
use Rattle.std.specs.Prelude.{◌≡◌, ◌≢◌, ℕ, suc, ◌+◌, ◌≤◌, ◌<◌, List, ◌++◌, length, None, Some}
use Rattle.chain_model.specs.PluginRule.{PluginRule}
use Rattle.chain_model.specs.Apply.{StageList}
use Rattle.chain_model.specs.declared.positions.TheConstants.{POSITION_LIMIT}
use Rattle.chain_core.specs.declared.core_plan.CorePlan.{CorePlan}
use Rattle.chain_core.specs.Numbers.{limit_of, written_of, reach_of, news_of, MayFollow}
use Rattle.chain_core.specs.Machine.{ChainState, Visit, progress_of_stages, Allowed}
use Rattle.chain_core.specs.ChainRun.{took}
use Rattle.chain_core.specs.Keeps.{Keeps}

-- a visit from one state to the next: what its stage has then, and that no other stage is touched
pub record ChangesOneStage (plan : CorePlan) (old new : ChainState) (visit : Visit) : Type 0 where
  pub given : (new.stages visit.stage).given ≡ (old.stages visit.stage).given ++ visit.cells
  pub taken : (new.stages visit.stage).taken ≡ (news_of plan (progress_of_stages new) visit.stage).taken
  pub ended : (new.stages visit.stage).ended ≡ visit.word.ended
  pub others : (j : ℕ) → j ≢ visit.stage → new.stages j ≡ old.stages j
  -- no cell is taken back
  pub no_less : (old.stages visit.stage).taken ≤ (new.stages visit.stage).taken
  -- the output received the limit of its news, and no other visit changes the limit that it received
  pub told : visit.stage ≡ suc plan.plugins → new.told ≡ limit_of plan (progress_of_stages new)
  pub not_told : visit.stage ≢ suc plan.plugins → new.told ≡ old.told

-- what another stage is about to give and report stays as it was: allowed, and as its list says
pub record LeavesOthers (plan : CorePlan) (old new : ChainState) (visit : Visit) : Type 0 where
  pub allowed : (other : Visit) → other.stage ≢ visit.stage → Allowed plan old other → Allowed plan new other
  pub took_same : (j : ℕ) → j ≢ visit.stage → took new j ≡ took old j
  pub keeps : (rules : List PluginRule) (input : StageList) (other : Visit) → other.stage ≢ visit.stage → Keeps plan rules input old other
      → Keeps plan rules input new other

-- what the news promise that stage `k` may receive in this state
pub record NewsHold (plan : CorePlan) (state : ChainState) (k : ℕ) : Type 0 where
  pub taken_ahead : (news_of plan (progress_of_stages state) k).taken ≤ (news_of plan (progress_of_stages state) k).written + plan.buffer
  pub taken_below : (news_of plan (progress_of_stages state) k).taken ≤ POSITION_LIMIT
  pub written_within : k ≤ suc plan.plugins → (news_of plan (progress_of_stages state) k).written ≤ length (state.stages k).given
  pub given_within : length (state.stages k).given ≤ (news_of plan (progress_of_stages state) k).taken
  pub taken_within : (j : ℕ) → k ≡ suc j → (news_of plan (progress_of_stages state) k).taken ≤ length (state.stages j).given

-- the news do not go back: what was written stays written, and a limit that is known stays
pub record NewsGrow (plan : CorePlan) (old new : ChainState) : Type 0 where
  pub written : written_of plan (progress_of_stages old) ≤ written_of plan (progress_of_stages new)
  pub limit : (limit : ℕ) → limit_of plan (progress_of_stages old) ≡ Some limit → limit_of plan (progress_of_stages new) ≡ Some limit

-- nothing moves: a stage that goes on has taken all that waits and has given on all that it took, nothing
-- lets it follow, and an input goes on only below the greatest position
pub record IsQuiet (plan : CorePlan) (state : ChainState) : Type 0 where
  pub took_all : (k : ℕ) → k ≤ suc plan.plugins → (state.stages k).ended ≡ None
      → reach_of plan (progress_of_stages state) k ≤ (state.stages k).taken
  pub gave_all : (k : ℕ) → k ≤ suc plan.plugins → (state.stages k).ended ≡ None → (state.stages k).taken ≤ length (state.stages k).given
  pub not_following : (k : ℕ) → k ≤ suc plan.plugins → (state.stages k).ended ≡ None
      → MayFollow plan (progress_of_stages state) k (length (state.stages k).given) → ⊥
  pub input_below : (state.stages 0).ended ≡ None → length (state.stages 0).given < POSITION_LIMIT
