-- A run in one thread, between the turns of its stages: what it has besides what every run has. This project's own rule.
use Rattle.std.specs.Prelude.{◌≡◌, ℕ, zero, suc, ◌+◌, ◌-◌, ◌<◌, ◌≤◌, List, [], length, if◌then◌else◌, None, is_some}
use Rattle.ts_packet.specs.declared.cell.Cell.{Cell}
use Rattle.chain_model.specs.declared.positions.TheConstants.{POSITION_LIMIT}
use Rattle.chain_model.specs.Apply.{StageList}
use Rattle.chain_core.specs.declared.core_plan.CorePlan.{CorePlan}
use Rattle.chain_core.specs.declared.progress.Progress.{Progress}
use Rattle.chain_core.specs.Numbers.{StagesProgress, reach_of, MayFollow}
use Rattle.chain_core.specs.Machine.{Visit}
use Rattle.chain_core.specs.ChainRun.{state_after, took}
use Rattle.chain_core.specs.CoreNumbers.{CoreNumbers, StandsFor}
use Rattle.chain_core.specs.Keeps.{StageKeeps}
use Rattle.stage_run.specs.Seeing.{Seeing}
use Rattle.stage_run.specs.declared.stage_part.StagePart.{StagePart}
use Rattle.stage_run.specs.PartLists.{PartLists}
use Rattle.stage_run.specs.PartStands.{PartGives}
use Rattle.chain_run.specs.Slots.{slot, HoldsFrom}
use Rattle.chain_run.specs.Runs.{nothing_told, between, RunStart}
use Rattle.chain_run.specs.Ran.{IsValidRun, RanBy}

-- the numbers of a run go together
pub record NumbersFit {S K : Type 0} (begun : RunStart S K) (core : CoreNumbers)
    (stages slots : ℕ) : Type 0 where
  pub plan_is : core.plan ≡ begun.plan
  pub run : IsValidRun begun
  pub stages_are : stages ≡ begun.plan.plugins + 2
  pub slots_are : slots ≡ begun.plan.buffer

module _ {S K P : Type 0} (see : Seeing S K P) (begun : RunStart S K) where
  -- the stages have made these visits, and numbers and buffer are those after them
  pub record RunsBy (core : CoreNumbers) (parts : List (StagePart S K P)) (cells : List Cell)
      (visits : List Visit) (part : ℕ → StagePart S K P) (lists : ℕ → PartLists) : Type 0 where
    pub ran : RanBy see begun parts visits part lists
    pub numbers : StandsFor core (state_after begun.plan visits)
    -- a stage that goes on may report nothing, too
    pub going : (input : StageList) → PartGives see (part 0) (lists 0) input
        → (k : ℕ) → ((state_after begun.plan visits).stages k).ended ≡ None
        → StageKeeps begun.rules input begun.plan.plugins k (took (state_after begun.plan visits) k)
        ((state_after begun.plan visits).stages k).given [] nothing_told
    -- what a stage gave and the next one has not is in the buffer
    pub buffer : (k : ℕ) → k ≤ begun.plan.plugins
        → HoldsFrom (slot cells) (length ((state_after begun.plan visits).stages (suc k)).given)
        (between (state_after begun.plan visits) k)

  -- some visits led here
  pub record Runs (core : CoreNumbers) (parts : List (StagePart S K P)) (cells : List Cell) : Type 0 where
    pub visits : List Visit
    pub part : ℕ → StagePart S K P
    pub lists : ℕ → PartLists
    pub by : RunsBy core parts cells visits part lists

-- how much a stage can still do: cells to give, and its end
abbrev pub still_of : Progress → ℕ
still_of mark = (POSITION_LIMIT - mark.given) + (if is_some mark.ended then 0 else 1)

-- how much the stages below a number can still do
abbrev pub remaining_work : StagesProgress → ℕ → ℕ
remaining_work progress zero = 0
remaining_work progress (suc n) = remaining_work progress n + still_of (progress n)

-- a stage that goes on has nothing to do
pub record IsIdle (plan : CorePlan) (progress : StagesProgress) (k : ℕ) : Type 0 where
  pub took_all : reach_of plan progress k ≤ (progress k).taken
  pub gave_all : (progress k).taken ≤ (progress k).given
  pub not_following : MayFollow plan progress k (progress k).given → ⊥
  pub input_below : k ≡ 0 → (progress k).given < POSITION_LIMIT

abbrev pub IsIdleOrOver : CorePlan → StagesProgress → ℕ → Type 0
IsIdleOrOver plan progress k = (progress k).ended ≡ None → IsIdle plan progress k
