-- All that a run needs of the machine. This project's own rule.
use Rattle.std.specs.Prelude.{◌≤◌, ℕ, List, ◌∷◌, Option}
use Rattle.ts_packet.specs.declared.cell.Cell.{Cell}
use Rattle.chain_model.specs.Prefix.{IsPrefix}
use Rattle.chain_model.specs.PluginRule.{PluginRule}
use Rattle.chain_model.specs.Apply.{StageList, apply}
use Rattle.chain_core.specs.declared.core_plan.CorePlan.{CorePlan}
use Rattle.chain_core.specs.declared.stage_end.StageEnd.{StageEnd}
use Rattle.chain_core.specs.Numbers.{UsersArePlugins}
use Rattle.chain_core.specs.Machine.{ChainState, Visit, progress_of_stages, visited}
use Rattle.chain_core.specs.ChainRun.{ChainRun, state_after, AllEnded}
use Rattle.chain_core.specs.Keeps.{KeepsList, KeptRun}
use Rattle.chain_core.specs.Laws.{ChangesOneStage, LeavesOthers, NewsHold, NewsGrow, IsQuiet}
use Rattle.chain_core.specs.Close.{cut_at_close, cause_at_close}
use Rattle.chain_core.specs.EveryOrder.{SoFar, AtClose}

pub record MachineLaws : Type 0 where
  -- one visit changes its stage, and leaves what the others are about to do
  pub changes : (plan : CorePlan) (state : ChainState) (visit : Visit)
      → ChangesOneStage plan state (visited plan state visit) visit
  pub leaves : (plan : CorePlan) (visits : List Visit) (visit : Visit)
      → UsersArePlugins plan → ChainRun plan (visit ∷ visits)
      → LeavesOthers plan (state_after plan visits) (state_after plan (visit ∷ visits)) visit
  -- the promises on the news
  pub hold : (plan : CorePlan) (visits : List Visit) (k : ℕ)
      → UsersArePlugins plan → ChainRun plan visits → NewsHold plan (state_after plan visits) k
  pub grow : (plan : CorePlan) (visits : List Visit) (visit : Visit)
      → UsersArePlugins plan → ChainRun plan (visit ∷ visits)
      → NewsGrow plan (state_after plan visits) (state_after plan (visit ∷ visits))
  -- where nothing moves all stages have ended
  pub quiet : (plan : CorePlan) (visits : List Visit)
      → UsersArePlugins plan → 1 ≤ plan.buffer → ChainRun plan visits
      → IsQuiet plan (state_after plan visits) → AllEnded plan (progress_of_stages (state_after plan visits))
  -- what a stage has done by some of its cells it has done by all
  pub keeps : (rule : PluginRule) (met all given : List Cell) (plugins k : ℕ) (ended : Option StageEnd)
      → IsPrefix met all → KeepsList plugins k (apply rule met) given ended
      → KeepsList plugins k (apply rule all) given ended
  -- the chain theorem, during a run and at its end
  pub every : (plan : CorePlan) (rules : List PluginRule) (input : StageList) (visits : List Visit)
      → KeptRun plan rules input visits → SoFar plan rules input (state_after plan visits)
  pub close : (plan : CorePlan) (rules : List PluginRule) (input : StageList) (visits : List Visit)
      → KeptRun plan rules input visits → AllEnded plan (progress_of_stages (state_after plan visits))
      → AtClose plan rules input (state_after plan visits)
      (cut_at_close plan (progress_of_stages (state_after plan visits)))
      (cause_at_close plan (progress_of_stages (state_after plan visits)))
