-- What the core keeps, and the relation that ties it to the machine's state. This project's own rule.
use Rattle.std.specs.Prelude.{◌≡◌, ℕ, zero, suc, ◌+◌, ◌≤◌, max, ◌==◌, if◌then◌else◌, Bool, true, false, List, [], ◌++◌, slice_index_or, slice_set, Option, None, Some}
use Rattle.std.specs.Option.{option_or}
use Rattle.chain_core.specs.declared.core_plan.CorePlan.{CorePlan}
use Rattle.chain_core.specs.declared.progress.Progress.{Progress}
use Rattle.chain_core.specs.declared.stage_word.StageWord.{StageWord}
use Rattle.chain_model.specs.Cut.{Ending}
use Rattle.chain_core.specs.Stages.{has_stage}
use Rattle.chain_core.specs.Numbers.{StagesProgress, UsersArePlugins, limit_of, takes_of}
use Rattle.chain_core.specs.Machine.{ChainState, progress_of_stages}
use Rattle.chain_core.specs.Close.{ending_of_progress}

-- a plan that a core can be made of
pub record IsValidPlan (plan : CorePlan) : Type 0 where
  pub plugins : plan.plugins ≤ 62
  pub some_buffer : 1 ≤ plan.buffer
  pub buffer : plan.buffer ≤ 1000000
  pub most : 1 ≤ plan.most
  pub users : UsersArePlugins plan

-- what a core keeps: its plan, a progress for each stage, and the limit that the output last received
pub record CoreNumbers : Type 0 where
  pub plan : CorePlan
  pub progress : List Progress
  pub told : Option ℕ

-- the progress of a stage that gave and took nothing
abbrev pub fresh_progress : Progress
fresh_progress = record { given = 0; taken = 0; agreed = None; ended = None }

-- the progress of a row by the stage's number
abbrev pub progress_in : List Progress → StagesProgress
progress_in progress k = slice_index_or progress k fresh_progress

-- the progress by the stage's number
abbrev pub progress_of_core : CoreNumbers → StagesProgress
progress_of_core core k = progress_in core.progress k

-- the core has the numbers of the machine's state
pub record StandsFor (core : CoreNumbers) (state : ChainState) : Type 0 where
  pub progress : (k : ℕ) → progress_of_core core k ≡ progress_of_stages state k
  pub told : core.told ≡ state.told

-- the progress of a stage that has given so many cells more and reported the word
abbrev pub noted_progress : Bool → Progress → ℕ → StageWord → Progress
noted_progress is_user progress done word = record {
  given = progress.given + done;
  taken = progress.taken;
  agreed = if is_user then option_or progress.agreed word.agreed else progress.agreed;
  ended = word.ended;
}

-- the progress of a stage that has taken so many cells more
abbrev pub taking_progress : Progress → ℕ → Progress
taking_progress progress n = record {
  given = progress.given;
  taken = progress.taken + n;
  agreed = progress.agreed;
  ended = progress.ended;
}

-- the numbers when the cells and the word of a stage are noted
abbrev pub noted_numbers : CoreNumbers → ℕ → ℕ → StageWord → CoreNumbers
noted_numbers core stage done word = record {
  plan = core.plan;
  progress = slice_set core.progress stage (noted_progress (has_stage core.plan.users stage) (progress_of_core core stage) done word);
  told = core.told;
}

-- the numbers when the stage has taken of the cells that wait, and the output is given the limit
abbrev pub served_numbers : CoreNumbers → ℕ → CoreNumbers
served_numbers core stage = record {
  plan = core.plan;
  progress = slice_set core.progress stage (taking_progress (progress_of_core core stage)
      (takes_of core.plan (progress_of_core core) stage));
  told = if stage == suc core.plan.plugins then limit_of core.plan (progress_of_core core) else core.told;
}

-- the greatest of agreements so far and one more, if all of them are known
abbrev pub greatest_more : Bool → Option ℕ → Option ℕ → Option ℕ
greatest_more false so_far agreed = agreed
greatest_more true None agreed = None
greatest_more true (Some m) None = None
greatest_more true (Some m) (Some n) = Some (max m n)

-- the endings of the stages before one
abbrev pub endings_before : StagesProgress → ℕ → List Ending
endings_before progress zero = []
endings_before progress (suc n) = endings_before progress n ++ ending_of_progress n (progress n)
