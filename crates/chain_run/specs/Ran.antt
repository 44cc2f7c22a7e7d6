-- A run, whoever served its stages: all that its end rests on. This project's own rule.
use Rattle.std.specs.Prelude.{◌≡◌, ℕ, suc, ◌+◌, ◌≤◌, List, [], length, slice_index_or, false}
use Rattle.std.specs.List.{All}
use Rattle.chain_model.specs.Apply.{StageList}
use Rattle.chain_core.specs.declared.closed.Closed.{Closed}
use Rattle.chain_core.specs.Machine.{Visit, ChainState, progress_of_stages}
use Rattle.chain_core.specs.ChainRun.{ChainRun, state_after, AllEnded}
use Rattle.chain_core.specs.Close.{closed_of}
use Rattle.chain_core.specs.CoreNumbers.{IsValidPlan}
use Rattle.chain_core.specs.Keeps.{AllKeep}
use Rattle.stage_run.specs.Seeing.{Seeing}
use Rattle.stage_run.specs.declared.stage_part.StagePart.{StagePart}
use Rattle.stage_run.specs.PartLists.{PartLists}
use Rattle.stage_run.specs.PartStands.{PartGives}
use Rattle.chain_run.specs.Runs.{RunStart}
use Rattle.chain_run.specs.OneStage.{StandsIn}

-- what every run has
pub record IsValidRun {S K : Type 0} (begun : RunStart S K) : Type 0 where
  pub valid : IsValidPlan begun.plan
  pub rules_are : length begun.rules ≡ begun.plan.plugins
  pub rooms_are : length begun.rooms ≡ begun.plan.plugins
  pub agree_late : All (λ rule. rule.agrees [] ≡ false) begun.rules

module _ {S K P : Type 0} (see : Seeing S K P) (begun : RunStart S K) (parts : List (StagePart S K P)) where
  -- the stages have made these visits; `part` is each stage, and it stands for `lists`
  pub record RanBy (visits : List Visit) (part : ℕ → StagePart S K P) (lists : ℕ → PartLists) : Type 0 where
    pub parts_are : (k : ℕ) (d : StagePart S K P) → k ≤ suc begun.plan.plugins
        → slice_index_or parts k d ≡ part k
    pub run : ChainRun begun.plan visits
    -- whichever list the input's may be, each visit is made as the lists of the plugins over it say
    pub kept : (input : StageList) → PartGives see (part 0) (lists 0) input
        → AllKeep begun.plan begun.rules input visits
    pub stands : (k : ℕ) → k ≤ suc begun.plan.plugins
        → StandsIn see begun (part k) k (lists k) (state_after begun.plan visits)
        (PartGives see (part 0) (lists 0))

  -- some visits led here
  pub record Ran : Type 0 where
    pub valid_run : IsValidRun begun
    pub stages_are : length parts ≡ begun.plan.plugins + 2
    pub visits : List Visit
    pub part : ℕ → StagePart S K P
    pub lists : ℕ → PartLists
    pub by : RanBy visits part lists

  -- the state that a run led to
  abbrev pub state_of : Ran → ChainState
  state_of ran = state_after begun.plan ran.visits

  -- all its stages have ended, and this is the machine's close of it
  pub record HasClosed (closed : Closed) : Type 0 where
    pub ran : Ran
    pub over : AllEnded begun.plan (progress_of_stages (state_of ran))
    pub closed_is : closed ≡ closed_of begun.plan (progress_of_stages (state_of ran))
