-- The machine of the chain: stages that hand cells on. One event is the visit of a stage.
-- This project's own rule.
use Rattle.std.specs.Prelude.{ℕ, suc, ◌+◌, ◌==◌, if◌then◌else◌, List, [], ◌++◌, length, Option, None}
use Rattle.ts_packet.specs.declared.cell.Cell.{Cell}
use Rattle.chain_core.specs.declared.core_plan.CorePlan.{CorePlan}
use Rattle.chain_core.specs.declared.progress.Progress.{Progress}
use Rattle.chain_core.specs.declared.news.News.{News}
use Rattle.chain_core.specs.declared.stage_end.StageEnd.{StageEnd}
use Rattle.chain_core.specs.declared.stage_word.StageWord.{StageWord}
use Rattle.chain_core.specs.Numbers.{StagesProgress, limit_of, takes_of, agreed_with, news_of, MayVisit}

-- a stage: the cells that it has given, how many it has taken, and the agreement and the end that it reported
pub record StageState : Type 0 where
  pub given : List Cell
  pub taken : ℕ
  pub agreed : Option ℕ
  pub ended : Option StageEnd

-- all stages by their numbers, and the limit that the output last received
pub record ChainState : Type 0 where
  pub stages : ℕ → StageState
  pub told : Option ℕ

-- the visit of a stage: the cells that it gives on and the word that it reports
pub record Visit : Type 0 where
  pub stage : ℕ
  pub cells : List Cell
  pub word : StageWord

-- the visit of a stage that gives these cells and reports this word
abbrev pub visit_of : ℕ → List Cell → StageWord → Visit
visit_of stage cells word = record { stage = stage; cells = cells; word = word }

-- the numbers of a stage
abbrev pub progress_of_stage : StageState → Progress
progress_of_stage stage = record { given = length stage.given; taken = stage.taken; agreed = stage.agreed; ended = stage.ended }

-- the numbers of all stages
abbrev pub progress_of_stages : ChainState → StagesProgress
progress_of_stages state k = progress_of_stage (state.stages k)

-- nothing was given or taken
abbrev pub start : ChainState
start = record { stages = λ _. record { given = []; taken = 0; agreed = None; ended = None }; told = None }

-- the stages with one of them changed
unfoldable pub with_stage : (ℕ → StageState) → ℕ → StageState → ℕ → StageState
with_stage stages k stage j = if j == k then stage else stages j

-- the first step of a visit: the cells and the word are noted
unfoldable pub noted : CorePlan → ChainState → Visit → ChainState
noted plan state visit = record {
  stages = with_stage state.stages visit.stage (record {
    given = (state.stages visit.stage).given ++ visit.cells;
    taken = (state.stages visit.stage).taken;
    agreed = agreed_with plan visit.stage (state.stages visit.stage).agreed visit.word.agreed;
    ended = visit.word.ended;
  });
  told = state.told;
}

-- the second step: the stage takes of the cells that wait, and the output is given the limit
unfoldable pub served : CorePlan → ChainState → ℕ → ChainState
served plan state k = record {
  stages = with_stage state.stages k (record {
    given = (state.stages k).given;
    taken = (state.stages k).taken + takes_of plan (progress_of_stages state) k;
    agreed = (state.stages k).agreed;
    ended = (state.stages k).ended;
  });
  told = if k == suc plan.plugins then limit_of plan (progress_of_stages state) else state.told;
}

-- the state after a visit
unfoldable pub visited : CorePlan → ChainState → Visit → ChainState
visited plan state visit = served plan (noted plan state visit) visit.stage

-- the machine allows the visit
abbrev pub Allowed : CorePlan → ChainState → Visit → Type 0
Allowed plan state visit =
    MayVisit plan (progress_of_stages state) state.told visit.stage (length visit.cells) visit.word

-- the news that a visit returns to the stage
abbrev pub news_after : CorePlan → ChainState → Visit → News
news_after plan state visit = news_of plan (progress_of_stages (visited plan state visit)) visit.stage
