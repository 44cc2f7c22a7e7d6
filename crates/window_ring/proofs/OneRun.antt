-- What the stages did one by one is what they did in the one run.
use Rattle.std.proofs.Common.{ℕ, suc, ◌≤◌, List, [], ◌∷◌, ◌++◌, sym, refl, subst}
use Rattle.chain_model.specs.PluginRule.{PluginRule}
use Rattle.chain_model.specs.Apply.{StageList}
use Rattle.chain_core.specs.declared.core_plan.CorePlan.{CorePlan}
use Rattle.chain_core.specs.Machine.{Visit}
use Rattle.chain_core.specs.ChainRun.{ChainRun}
use Rattle.chain_core.specs.Keeps.{AllKeep}
use Rattle.window_ring.specs.Views.{NoneOf}
use Rattle.window_ring.specs.OneRun.{KeptBy, HasKept}

module _ (plan : CorePlan) (rules : List PluginRule) (input : StageList) where
  did_all : (k : ℕ) (later seen : List Visit) → NoneOf k later → KeptBy plan rules input k seen → KeptBy plan rules input k (later ++ seen)
  did_all k [] seen none kept = kept
  did_all k (v ∷ vs) seen none kept = (did_all k vs seen none.1 kept, λ e. absurd (none.0 e))

  each : (history : List Visit) → ((k : ℕ) → k ≤ suc plan.plugins → KeptBy plan rules input k history) → ChainRun plan history → AllKeep plan rules input history
  each [] all run = tt
  each (v ∷ vs) all run = (each vs (λ k lt. (all k lt).0) run.0, (all v.stage run.1.is_stage).1 refl)

  pub one_run : (history : List Visit) → ((k : ℕ) → k ≤ suc plan.plugins → HasKept plan rules input k history) → ChainRun plan history → AllKeep plan rules input history
  one_run history all run = each history (λ k lt. let d = all k lt in subst (KeptBy plan rules input k) (sym d.1.2) (did_all k d.1.0 d.0 d.1.1 d.2)) run
