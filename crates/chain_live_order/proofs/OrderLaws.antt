-- What may be printed while a chain runs, whatever the order of the visits.
use Rattle.std.proofs.Common.{◌≡◌, ℕ, suc, ◌<◌, ◌≤◌, List, length, take, min, sym, ◌∙◌, arith, length-take}
use Rattle.std.proofs.lemmas.List.{length-map}
use Rattle.chain_model.specs.Prefix.{IsPrefix}
use Rattle.chain_model.specs.Apply.{StageList}
use Rattle.chain_model.specs.StageLists.{stage_list}
use Rattle.chain_model.specs.Reports.{NamedRule, rules_of}
use Rattle.chain_model.proofs.PrefixLemmas.{IsPrefix-trans, IsPrefix-take}
use Rattle.chain_core.specs.declared.core_plan.CorePlan.{CorePlan}
use Rattle.chain_core.specs.Machine.{Visit, ChainState}
use Rattle.chain_core.specs.ChainRun.{state_after, took}
use Rattle.chain_core.specs.Keeps.{KeptRun}
use Rattle.chain_core.proofs.Facts.{prefix-take}
use Rattle.chain_core.proofs.Soundness.{Sound, run-sound, users_from, gave-falls}
use Rattle.chain_core.proofs.Theorem.{so-far}
use Rattle.chain_live.specs.LiveReports.{lines_below, lines_to}
use Rattle.chain_live.proofs.LineLaws.{only-met}

module _ (plan : CorePlan) (plugins : List NamedRule) (input : StageList) (users : List ℕ) (visits : List Visit)
    (kept : KeptRun plan (rules_of plugins) input visits) (w : ℕ)
    (given : w ≤ length ((state_after plan visits).stages (suc plan.plugins)).given) where
  abbrev state : ChainState
  state = state_after plan visits

  sound : Sound plan state
  sound = run-sound plan (users_from plan kept.users) visits kept.run

  counts : length plugins ≡ plan.plugins
  counts = sym (length-map plugins (λ (plugin : NamedRule). plugin.rule)) ∙ kept.plugins

  met-same : (j : ℕ) → j < length plugins → take w (took state (suc j)) ≡ take w (stage_list (rules_of plugins) input j).cells
  met-same j lt =
      let n : length plugins ≡ plan.plugins = counts in
      let in_ : IsPrefix (took state (suc j)) (stage_list (rules_of plugins) input j).cells =
      IsPrefix-trans (took state (suc j)) (state.stages j).given (stage_list (rules_of plugins) input j).cells
      (IsPrefix-take (state.stages (suc j)).taken (state.stages j).given)
      ((so-far plan (rules_of plugins) input visits kept).lists j (omega arith)) in
      let a : length ((state.stages (suc plan.plugins)).given) ≤ length ((state.stages (suc j)).given) = gave-falls plan state sound (suc plan.plugins) (suc j) (omega arith) in
      let b : length ((state.stages (suc j)).given) ≤ (state.stages (suc j)).taken = sound.within (suc j) in
      let c : (state.stages (suc j)).taken ≤ length ((state.stages j).given) = sound.handed j in
      let d : length (took state (suc j)) ≡ min (state.stages (suc j)).taken (length (state.stages j).given) = length-take (state.stages (suc j)).taken (state.stages j).given in
      prefix-take w (took state (suc j)) (stage_list (rules_of plugins) input j).cells in_ (omega arith)

  pub prints-same : lines_to (λ j. took state (suc j)) plugins w ≡ lines_below (record { input = input; plugins = plugins; users = users }) w
  prints-same = only-met plugins (λ j. took state (suc j)) (λ j. (stage_list (rules_of plugins) input j).cells) w met-same
