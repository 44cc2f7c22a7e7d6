-- The chain theorem: the result of every run of the machine, whatever the order of the visits.
-- This project's own rule.
use Rattle.std.specs.Prelude.{◌≡◌, ◌⊎◌, ℕ, suc, ◌+◌, ◌≤◌, List, length, take, Some}
use Rattle.chain_model.specs.Prefix.{IsPrefix}
use Rattle.chain_model.specs.PluginRule.{PluginRule}
use Rattle.chain_model.specs.Apply.{StageList}
use Rattle.chain_model.specs.StageLists.{stage_list, end_list}
use Rattle.chain_model.specs.Joint.{joint_position}
use Rattle.chain_model.specs.Cut.{IsPureClose, IsValidFault}
use Rattle.chain_model.specs.declared.cause.Cause.{Cause}
use Rattle.chain_model.specs.declared.cause.Cause.TheVariants.{Joint}
use Rattle.chain_core.specs.declared.core_plan.CorePlan.{CorePlan}
use Rattle.chain_core.specs.declared.stage_end.StageEnd.{StageEnd}
use Rattle.chain_core.specs.declared.stage_end.StageEnd.TheVariants.{Followed}
use Rattle.chain_core.specs.Stages.{stages_of}
use Rattle.chain_core.specs.Numbers.{StagesProgress, limit_of}
use Rattle.chain_core.specs.Machine.{ChainState, progress_of_stages}
use Rattle.chain_core.specs.Keeps.{EndsAs}
use Rattle.chain_core.specs.Close.{cause_of_stage}

-- a stage ended by itself so, and the cause that this gives is `why`
pub record EndsBy (progress : StagesProgress) (k : ℕ) (why : Cause) : Type 0 where
  pub end : StageEnd
  pub ended : (progress k).ended ≡ Some end
  pub gives : cause_of_stage k end ≡ Some why

-- the cut is known not to be after `m`: some stage ended by itself and gave no more, or the limit is known
-- and is no more
abbrev pub IsCutWithin : CorePlan → StagesProgress → ℕ → Type 0
IsCutWithin plan progress m =
    ((k : ℕ) × (why : Cause) × EndsBy progress k why × (k ≤ suc plan.plugins) × ((progress k).given ≤ m))
    ⊎ ((limit : ℕ) × (limit_of plan progress ≡ Some limit) × (limit ≤ m))

-- what holds at every moment of a run
pub record SoFar (plan : CorePlan) (rules : List PluginRule) (input : StageList) (state : ChainState) : Type 0 where
  -- each stage gave a first part of its list, the output of the last plugin's
  pub lists : (k : ℕ) → k ≤ plan.plugins → IsPrefix (state.stages k).given (stage_list rules input k).cells
  pub output : IsPrefix (state.stages (suc plan.plugins)).given (end_list rules input).cells
  -- the limit, once known, is the joint position, and the output gave no more
  pub limit_is_joint : (limit : ℕ) → limit_of plan (progress_of_stages state) ≡ Some limit
      → joint_position rules input (stages_of plan.users) ≡ Some limit
  pub written_within : (limit : ℕ) → limit_of plan (progress_of_stages state) ≡ Some limit
      → length (state.stages (suc plan.plugins)).given ≤ limit
  -- and it is known as soon as the input and every plugin gave so many cells
  pub limit_when_due : (joint : ℕ) → joint_position rules input (stages_of plan.users) ≡ Some joint
      → ((k : ℕ) → k ≤ plan.plugins → joint ≤ length (state.stages k).given) → limit_of plan (progress_of_stages state) ≡ Some joint
  -- the input is ahead of the output by the buffer at most
  pub made : length (state.stages 0).given ≤ length (state.stages (suc plan.plugins)).given + plan.buffer
  -- a stage that ended did so as its list says
  pub ends : (k : ℕ) (end : StageEnd) → (state.stages k).ended ≡ Some end
      → EndsAs plan.plugins k (stage_list rules input k) (state.stages k).given end
  -- a stage that followed gave at least all that will count
  pub followers : (k : ℕ) → (state.stages k).ended ≡ Some Followed
      → IsCutWithin plan (progress_of_stages state) (length (state.stages k).given)

-- the cause is joint termination at the limit, or a stage reported it and gave as much as counts
abbrev pub IsToldCause : CorePlan → StagesProgress → ℕ → Cause → Type 0
IsToldCause plan progress cut cause =
    ((cause ≡ Joint) × (limit_of plan progress ≡ Some cut))
    ⊎ ((k : ℕ) × EndsBy progress k cause × (k ≤ suc plan.plugins) × ((progress k).given ≡ cut))

-- what holds at the end of a run, with its cut and its cause
pub record AtClose (plan : CorePlan) (rules : List PluginRule) (input : StageList) (state : ChainState) (cut : ℕ)
    (cause : Cause) : Type 0 where
  -- what the output gave is the first `cut` cells of the last plugin's list
  pub written : (state.stages (suc plan.plugins)).given ≡ take cut (end_list rules input).cells
  -- each stage gave as much, one that followed too, and of its list
  pub reached : (k : ℕ) → k ≤ suc plan.plugins → cut ≤ length (state.stages k).given
  pub counted : (k : ℕ) → k ≤ plan.plugins → take cut (state.stages k).given ≡ take cut (stage_list rules input k).cells
  -- the input made no more than the buffer beyond it
  pub made : length (state.stages 0).given ≤ cut + plan.buffer
  -- cut and cause are the pure ones, or a fault ended the chain where it may
  pub pure_or_fault : IsPureClose rules input (stages_of plan.users) cut cause ⊎ IsValidFault rules input (stages_of plan.users) cut cause
  pub told : IsToldCause plan (progress_of_stages state) cut cause
