-- The numbers of a chain that runs: what each stage has given and taken, agreed to and ended by,
-- and what follows from them. This project's own rule.
use Rattle.std.specs.Prelude.{◌≡◌, ◌⊎◌, ℕ, zero, suc, ◌+◌, ◌-◌, ◌≤◌, ◌<◌, min, ◌==◌, nat_le, ◌&&◌, Bool, false, IsTrue, if◌then◌else◌, map, Option, None, Some, is_some}
use Rattle.std.specs.Option.{option_or}
use Rattle.std.specs.List.{All}
use Rattle.chain_model.specs.Joint.{greatest_if_all}
use Rattle.chain_model.specs.Cut.{lesser_end}
use Rattle.chain_model.specs.declared.positions.TheConstants.{POSITION_LIMIT}
use Rattle.chain_core.specs.declared.core_plan.CorePlan.{CorePlan}
use Rattle.chain_core.specs.declared.progress.Progress.{Progress}
use Rattle.chain_core.specs.declared.news.News.{News}
use Rattle.chain_core.specs.declared.stage_end.StageEnd.TheVariants.{Followed}
use Rattle.chain_core.specs.declared.stage_word.StageWord.{StageWord}
use Rattle.chain_core.specs.Stages.{has_stage, stages_of}

-- the numbers of all stages, by the stage's number
abbrev pub StagesProgress : Type 0
StagesProgress = ℕ → Progress

-- only plugins use joint termination
abbrev pub UsersArePlugins : CorePlan → Type 0
UsersArePlugins plan = All (λ k. (1 ≤ k) × (k ≤ plan.plugins)) (stages_of plan.users)

-- the joint position, once every plugin that uses joint termination has reported its agreement
abbrev pub limit_of : CorePlan → StagesProgress → Option ℕ
limit_of plan progress = greatest_if_all (map (λ k. (progress k).agreed) (stages_of plan.users))

-- how many cells the output has given, at most the limit
abbrev pub written_of : CorePlan → StagesProgress → ℕ
written_of plan progress = lesser_end (progress (suc plan.plugins)).given (limit_of plan progress)

-- the stage before has ended, and the stage has given on all its cells
abbrev pub is_before_over : StagesProgress → ℕ → Bool
is_before_over progress zero = false
is_before_over progress (suc j) = is_some (progress j).ended && (progress (suc j)).given == (progress j).given

-- the next stage has ended; there is none after the output
abbrev pub is_after_over : CorePlan → StagesProgress → ℕ → Bool
is_after_over plan progress k = nat_le k plan.plugins && is_some (progress (suc k)).ended

-- the news of a stage
abbrev pub news_of : CorePlan → StagesProgress → ℕ → News
news_of plan progress k = record {
  taken = (progress k).taken;
  limit = limit_of plan progress;
  written = written_of plan progress;
  before_over = is_before_over progress k;
  after_over = is_after_over plan progress k;
}

-- the positions below this number may be taken by the stage: for the input those that fit the buffer,
-- for another stage those that the stage before has given
abbrev pub reach_of : CorePlan → StagesProgress → ℕ → ℕ
reach_of plan progress zero = min ((progress (suc plan.plugins)).given + plan.buffer) POSITION_LIMIT
reach_of plan progress (suc j) = (progress j).given

-- how many cells the stage takes with a visit
abbrev pub takes_of : CorePlan → StagesProgress → ℕ → ℕ
takes_of plan progress k = min plan.most (reach_of plan progress k - (progress k).taken)

-- the agreement that is known of a stage: the first one that it reported, if it uses joint termination
abbrev pub agreed_with : CorePlan → ℕ → Option ℕ → Option ℕ → Option ℕ
agreed_with plan k known told = if has_stage plan.users k then option_or known told else known

-- a stage that had given `before` cells and has given `now` may report this agreement
abbrev pub IsAgreement : ℕ → ℕ → ℕ → Type 0
IsAgreement before now agreed = ((before < agreed) × (agreed ≤ now)) ⊎ (agreed ≡ now)

-- a stage that has given `now` cells may end by following
abbrev pub MayFollow : CorePlan → StagesProgress → ℕ → ℕ → Type 0
MayFollow plan progress k now =
    IsTrue (is_before_over progress k)
    ⊎ (IsTrue (is_after_over plan progress k)
    ⊎ ((limit : ℕ) × (limit_of plan progress ≡ Some limit) × (limit ≤ now)))

-- the machine allows a visit in which the stage gives so many cells; `told` is the limit that
-- the output last received
pub record MayVisit (plan : CorePlan) (progress : StagesProgress) (told : Option ℕ) (stage done : ℕ) (word : StageWord) : Type 0 where
  pub is_stage : stage ≤ suc plan.plugins
  pub goes_on : (progress stage).ended ≡ None
  pub held : (progress stage).given + done ≤ (progress stage).taken
  pub agreement : (agreed : ℕ) → word.agreed ≡ Some agreed → IsAgreement (progress stage).given ((progress stage).given + done) agreed
  pub below_limit : stage ≡ suc plan.plugins → (limit : ℕ) → told ≡ Some limit → 0 < done → (progress stage).given + done ≤ limit
  pub follows : word.ended ≡ Some Followed → MayFollow plan progress stage ((progress stage).given + done)
