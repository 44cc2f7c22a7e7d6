-- What follows from the machine's laws for the numbers of a run.
use Rattle.std.proofs.Common.{◌≡◌, ◌≢◌, ℕ, zero, suc, ◌+◌, ◌^◌, ◌<◌, ◌≤◌, List, [], ◌∷◌, ◌++◌, length, refl, ap, sym, ◌∙◌, subst, arith, inl, inr, append-nil}
use Rattle.std.proofs.lemmas.Bool.{cases_eq}
use Rattle.ts_packet.specs.declared.cell.Cell.{Cell}
use Rattle.chain_core.specs.declared.core_plan.CorePlan.{CorePlan}
use Rattle.chain_core.specs.Numbers.{UsersArePlugins, written_of}
use Rattle.chain_core.specs.Machine.{ChainState, Visit, StageState, progress_of_stages, visited}
use Rattle.chain_core.specs.ChainRun.{ChainRun, state_after}
use Rattle.chain_core.specs.Laws.{ChangesOneStage}
use Rattle.chain_run.specs.Laws.{MachineLaws}

-- the state after one visit more
pub after-visit : (plan : CorePlan) (visits : List Visit) (visit : Visit) → state_after plan (visit ∷ visits) ≡ visited plan (state_after plan visits) visit
unfolding state_after
after-visit plan visits visit = refl

module _ (laws : MachineLaws) (plan : CorePlan) (users : UsersArePlugins plan) (visits : List Visit) (run : ChainRun plan visits) where
  abbrev pub state : ChainState
  state = state_after plan visits

  pub given-taken : (k : ℕ) → length (state.stages k).given ≤ (state.stages k).taken
  given-taken k = (laws.hold plan visits k users run).given_within

  pub taken-given : (j : ℕ) → (state.stages (suc j)).taken ≤ length (state.stages j).given
  taken-given j = (laws.hold plan visits (suc j) users run).taken_within j refl

  -- no stage gave more than one before it
  pub given-falls : (k j : ℕ) → j ≤ k → length (state.stages k).given ≤ length (state.stages j).given
  given-falls zero j le =
      let e : j ≡ 0 = omega arith in subst (λ i. length (state.stages 0).given ≤ length (state.stages i).given) (sym e) (omega arith)
  given-falls (suc k) j le =
      elim (cases_eq j (suc k)) [
        | inl same ↦ subst (λ i. length (state.stages (suc k)).given ≤ length (state.stages i).given) (sym same) (omega arith)
        | inr apart ↦ (let a = given-falls k j (omega arith) in let b = given-taken (suc k) in let c = taken-given k in omega arith)
      ]

  -- none took more than one before it gave
  pub taken-falls : (k j : ℕ) → j < k → (state.stages k).taken ≤ length (state.stages j).given
  taken-falls zero j lt = absurd (omega arith)
  taken-falls (suc k) j lt = let a = given-falls k j (omega arith) in let b = taken-given k in omega arith

  pub written-given : (k : ℕ) → k ≤ suc plan.plugins → written_of plan (progress_of_stages state) ≤ length (state.stages k).given
  written-given k le = (laws.hold plan visits k users run).written_within le

  -- no stage took more than the buffer after what was written
  pub taken-ahead : (k : ℕ) → (state.stages k).taken ≤ written_of plan (progress_of_stages state) + plan.buffer
  taken-ahead k = (laws.hold plan visits k users run).taken_ahead

  pub taken-below : (k : ℕ) → (state.stages k).taken ≤ 2 ^ 60
  taken-below k = (laws.hold plan visits k users run).taken_below

module _ (laws : MachineLaws) (plan : CorePlan) (users : UsersArePlugins plan) (visits : List Visit) (visit : Visit) (run : ChainRun plan (visit ∷ visits)) where
  abbrev old : ChainState
  old = state_after plan visits

  abbrev new : ChainState
  new = state_after plan (visit ∷ visits)

  pub change : ChangesOneStage plan old new visit
  change =
      subst (λ (s : ChainState). ChangesOneStage plan old s visit) (sym (after-visit plan visits visit)) (laws.changes plan old visit)

  pub stage-other : (j : ℕ) → j ≢ visit.stage → new.stages j ≡ old.stages j
  stage-other j apart = change.others j apart

  pub written-grows : written_of plan (progress_of_stages old) ≤ written_of plan (progress_of_stages new)
  written-grows = (laws.grow plan visits visit users run).written

  -- what another stage was given grew at most
  pub given-more : (j : ℕ) → (more : List Cell) × ((new.stages j).given ≡ (old.stages j).given ++ more)
  given-more j =
      elim (cases_eq j visit.stage) [
        | inl same ↦ (visit.cells, subst (λ i. (new.stages i).given ≡ (old.stages i).given ++ visit.cells) (sym same) change.given)
        | inr apart ↦ ([], ap (λ (s : StageState). s.given) (stage-other j apart) ∙ sym (append-nil (old.stages j).given))
      ]
