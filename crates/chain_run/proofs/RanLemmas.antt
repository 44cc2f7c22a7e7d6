-- What the chain theorem says of a run, whoever served its stages.
use Rattle.std.proofs.Common.{ℕ, List, [], ◌∷◌, ◌++◌, refl, subst, arith}
use Rattle.chain_model.specs.PluginRule.{PluginRule}
use Rattle.chain_model.specs.Apply.{StageList}
use Rattle.chain_core.specs.declared.core_plan.CorePlan.{CorePlan}
use Rattle.chain_core.specs.Machine.{Visit}
use Rattle.chain_core.specs.ChainRun.{ChainRun, state_after}
use Rattle.chain_core.specs.Keeps.{AllKeep, KeptRun}
use Rattle.chain_core.specs.EveryOrder.{SoFar}
use Rattle.stage_run.specs.Seeing.{Seeing}
use Rattle.stage_run.specs.declared.stage_part.StagePart.{StagePart}
use Rattle.stage_run.specs.PartLists.{PartLists}
use Rattle.stage_run.specs.PartStands.{PartGives}
use Rattle.stage_run.specs.Parts.{IsListOf}
use Rattle.chain_run.specs.Runs.{RunStart}
use Rattle.chain_run.specs.OneStage.{SoFarUpTo}
use Rattle.chain_run.specs.Ran.{IsValidRun, RanBy}
use Rattle.chain_run.specs.Laws.{MachineLaws}
use Rattle.chain_run.proofs.TurnLemmas.{list-ends}

-- an earlier part of a run
pub earlier_run : (plan : CorePlan) (later q : List Visit) → ChainRun plan (later ++ q) → ChainRun plan q
earlier_run plan [] q run = run
earlier_run plan (v ∷ vs) q run = earlier_run plan vs q run.0

pub earlier_kept : (plan : CorePlan) (rules : List PluginRule) (input : StageList) (later q : List Visit) → AllKeep plan rules input (later ++ q) → AllKeep plan rules input q
earlier_kept plan rules input [] q kept = kept
earlier_kept plan rules input (v ∷ vs) q kept = earlier_kept plan rules input vs q kept.0

module _ {S K P : Type 0} (see : Seeing S K P) (begun : RunStart S K) (r : IsValidRun begun) where
  pub kept-run : (input : StageList) (visits : List Visit) → IsListOf see.source begun.from begun.stuffing input → AllKeep begun.plan begun.rules input visits → ChainRun begun.plan visits → KeptRun begun.plan begun.rules input visits
  kept-run input visits is_list kept run = record {
    plugins = r.rules_are;
    users = r.valid.users;
    agree_late = r.agree_late;
    input_ends = list-ends see.source begun.from begun.stuffing input is_list;
    run = run;
    kept = kept;
  }

  -- the chain theorem holds of each earlier part of a run
  pub so-far-up_to : (laws : MachineLaws) (input : StageList) (visits : List Visit) → IsListOf see.source begun.from begun.stuffing input → AllKeep begun.plan begun.rules input visits → ChainRun begun.plan visits → SoFarUpTo begun.plan begun.rules visits input
  so-far-up_to laws input visits is_list kept run x q e =
      laws.every begun.plan begun.rules input q
      (kept-run input q is_list (earlier_kept begun.plan begun.rules input x q (subst (AllKeep begun.plan begun.rules input) e kept)) (earlier_run begun.plan x q (subst (ChainRun begun.plan) e run)))

  module _ (laws : MachineLaws) (parts : List (StagePart S K P)) (visits : List Visit) (part : ℕ → StagePart S K P) (lists : ℕ → PartLists) (by : RanBy see begun parts visits part lists)
      (input : StageList) (gives : PartGives see (part 0) (lists 0) input) where
    pub is-list : IsListOf see.source begun.from begun.stuffing input
    is-list = ((by.stands 0 (omega arith)).input refl).is_list input gives

    pub kept-of : KeptRun begun.plan begun.rules input visits
    kept-of = kept-run input visits is-list (by.kept input gives) by.run

    pub far : SoFar begun.plan begun.rules input (state_after begun.plan visits)
    far = laws.every begun.plan begun.rules input visits kept-of

    pub far-up_to : SoFarUpTo begun.plan begun.rules visits input
    far-up_to = so-far-up_to laws input visits is-list (by.kept input gives) by.run
