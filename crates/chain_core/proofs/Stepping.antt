-- What the two steps of a visit change and what they leave.
use Rattle.std.proofs.Common.{◌≡◌, ◌≢◌, ℕ, suc, ◌+◌, ◌++◌, refl, ap, ◌∙◌, eq-eqb}
use Rattle.std.specs.Prelude.{◌==◌}
use Rattle.std.proofs.lemmas.Bool.{cond-true, cond-false, ne_eqb}
use Rattle.chain_core.specs.declared.core_plan.CorePlan.{CorePlan}
use Rattle.chain_core.specs.Numbers.{limit_of, takes_of, agreed_with}
use Rattle.chain_core.specs.Machine.{StageState, ChainState, Visit, progress_of_stages, with_stage, noted, served, visited}

pub with_stage-same : (stages : ℕ → StageState) (k : ℕ) (stage : StageState) → with_stage stages k stage k ≡ stage
unfolding with_stage
with_stage-same stages k stage =
    cond-true (k == k) stage (stages k) (eq-eqb k k refl)

pub with_stage-other : (stages : ℕ → StageState) (k : ℕ) (stage : StageState) (j : ℕ) → j ≢ k → with_stage stages k stage j ≡ stages j
unfolding with_stage
with_stage-other stages k stage j apart =
    cond-false (j == k) stage (stages j) (ne_eqb j k apart)

-- the stage of a visit, when its cells and its word are noted
abbrev pub noted_stage : CorePlan → StageState → Visit → StageState
noted_stage plan stage visit = record {
  given = stage.given ++ visit.cells;
  taken = stage.taken;
  agreed = agreed_with plan visit.stage stage.agreed visit.word.agreed;
  ended = visit.word.ended;
}

-- a stage that takes so many cells
abbrev pub taking : StageState → ℕ → StageState
taking stage n = record { given = stage.given; taken = stage.taken + n; agreed = stage.agreed; ended = stage.ended }

module _ (plan : CorePlan) (state : ChainState) (visit : Visit) where
  pub noted-same : (noted plan state visit).stages visit.stage ≡ noted_stage plan (state.stages visit.stage) visit
  unfolding noted
  noted-same =
      with_stage-same state.stages visit.stage (noted_stage plan (state.stages visit.stage) visit)

  pub noted-other : (j : ℕ) → j ≢ visit.stage → (noted plan state visit).stages j ≡ state.stages j
  unfolding noted
  noted-other j apart =
      with_stage-other state.stages visit.stage (noted_stage plan (state.stages visit.stage) visit) j apart

  pub noted-told : (noted plan state visit).told ≡ state.told
  unfolding noted
  noted-told = refl

module _ (plan : CorePlan) (state : ChainState) (k : ℕ) where
  pub served-same : (served plan state k).stages k ≡ taking (state.stages k) (takes_of plan (progress_of_stages state) k)
  unfolding served
  served-same =
      with_stage-same state.stages k (taking (state.stages k) (takes_of plan (progress_of_stages state) k))

  pub served-other : (j : ℕ) → j ≢ k → (served plan state k).stages j ≡ state.stages j
  unfolding served
  served-other j apart =
      with_stage-other state.stages k (taking (state.stages k) (takes_of plan (progress_of_stages state) k)) j apart

  pub served-told_output : k ≡ suc plan.plugins → (served plan state k).told ≡ limit_of plan (progress_of_stages state)
  unfolding served
  served-told_output is =
      cond-true (k == suc plan.plugins) (limit_of plan (progress_of_stages state)) state.told (eq-eqb k (suc plan.plugins) is)

  pub served-told_other : k ≢ suc plan.plugins → (served plan state k).told ≡ state.told
  unfolding served
  served-told_other apart =
      cond-false (k == suc plan.plugins) (limit_of plan (progress_of_stages state)) state.told (ne_eqb k (suc plan.plugins) apart)

module _ (plan : CorePlan) (state : ChainState) (visit : Visit) where
  pub visited-other : (j : ℕ) → j ≢ visit.stage → (visited plan state visit).stages j ≡ state.stages j
  unfolding visited
  visited-other j apart =
      served-other plan (noted plan state visit) visit.stage j apart ∙ noted-other plan state visit j apart

  -- what the stage of the visit has given, agreed to and ended by
  pub visited-same : (visited plan state visit).stages visit.stage ≡ taking (noted_stage plan (state.stages visit.stage) visit) (takes_of plan (progress_of_stages (noted plan state visit)) visit.stage)
  unfolding visited
  visited-same =
      served-same plan (noted plan state visit) visit.stage ∙ ap (λ (stage : StageState). taking stage (takes_of plan (progress_of_stages (noted plan state visit)) visit.stage)) (noted-same plan state visit)
