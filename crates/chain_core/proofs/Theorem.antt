-- The chain theorem, put together.
use Rattle.std.proofs.Common.{◌≡◌, ◌≢◌, ℕ, zero, suc, List, [], ◌∷◌, false, Some, refl, arith}
use Rattle.std.specs.List.{AllByRecursion}
use Rattle.chain_model.specs.PluginRule.{PluginRule, passing_rule}
use Rattle.chain_model.specs.Apply.{StageList, last_passed}
use Rattle.chain_model.specs.StageLists.{rule_after}
use Rattle.chain_core.specs.declared.core_plan.CorePlan.{CorePlan}
use Rattle.chain_core.specs.declared.stage_end.StageEnd.TheVariants.{Followed}
use Rattle.chain_core.specs.Machine.{Visit, progress_of_stages}
use Rattle.chain_core.specs.ChainRun.{state_after, AllEnded}
use Rattle.chain_core.specs.Keeps.{KeptRun}
use Rattle.chain_core.specs.Close.{cut_at_close, cause_at_close}
use Rattle.chain_core.specs.EveryOrder.{SoFar, AtClose}
use Rattle.chain_core.proofs.Facts.{all_by_recursion}
use Rattle.chain_core.proofs.Soundness.{AreUsers, users_from, Sound, run-sound}
use Rattle.chain_core.proofs.ListsKept.{Faithful, run-faithful}
use Rattle.chain_core.proofs.Closing.{limit-joint, joint-limit, output-prefix, closing}

agrees-late : (rules : List PluginRule) → AllByRecursion (λ (rule : PluginRule). rule.agrees [] ≡ false) rules → (j : ℕ) → (rule_after rules j).agrees [] ≡ false
unfolding passing_rule
agrees-late [] late j = refl
agrees-late (rule ∷ rules) late zero = late.0
agrees-late (rule ∷ rules) late (suc j) = agrees-late rules late.1 j

module _ (plan : CorePlan) (rules : List PluginRule) (input : StageList) (visits : List Visit) (kept : KeptRun plan rules input visits) where
  users : AreUsers plan
  users = users_from plan kept.users

  pub sound : Sound plan (state_after plan visits)
  sound = run-sound plan users visits kept.run

  no-last : input.ended ≢ Some last_passed
  no-last e = let is = kept.input_ends.1 in absurd cc

  pub faithful : Faithful plan rules input (state_after plan visits)
  faithful =
      run-faithful plan rules input (agrees-late rules (all_by_recursion (λ (rule : PluginRule). rule.agrees [] ≡ false) rules kept.agree_late)) no-last users visits kept.run kept.kept

  pub so-far : SoFar plan rules input (state_after plan visits)
  so-far = record {
    lists = (λ k le. faithful.lists k);
    output = output-prefix plan rules input (state_after plan visits) users kept.plugins sound faithful;
    limit_is_joint = limit-joint plan rules input (state_after plan visits) users faithful;
    written_within = (λ limit is. (sound.limited limit is).0);
    limit_when_due = (λ joint is reached. joint-limit plan rules input (state_after plan visits) users faithful joint reached joint is (omega arith));
    made = (let a = sound.within 0 in let b = sound.bound in omega arith);
    ends = faithful.ends;
    followers = (λ k is. sound.key k Followed is);
  }

  pub at-close : AllEnded plan (progress_of_stages (state_after plan visits)) → AtClose plan rules input (state_after plan visits) (cut_at_close plan (progress_of_stages (state_after plan visits))) (cause_at_close plan (progress_of_stages (state_after plan visits)))
  at-close ended =
      closing plan rules input (state_after plan visits) users kept.plugins sound faithful ended
