-- What the machine's laws say of the numbers of a run, in the words of one visit.
use Rattle.std.proofs.Common.{◌≡◌, ℕ, suc, ◌≤◌, List, [], ◌∷◌, ◌++◌, length, refl, ap, sym, ◌∙◌, subst, inl, inr, append-nil}
use Rattle.std.proofs.lemmas.Bool.{cases_eq}
use Rattle.ts_packet.specs.declared.cell.Cell.{Cell}
use Rattle.chain_core.specs.declared.core_plan.CorePlan.{CorePlan}
use Rattle.chain_core.specs.Numbers.{UsersArePlugins}
use Rattle.chain_core.specs.Machine.{StageState, Visit, visited}
use Rattle.chain_core.specs.ChainRun.{ChainRun, state_after}
use Rattle.chain_core.specs.Laws.{ChangesOneStage}
use Rattle.chain_run.specs.Laws.{MachineLaws}

-- the state after one visit more
pub after-visit : (plan : CorePlan) (visits : List Visit) (visit : Visit) → state_after plan (visit ∷ visits) ≡ visited plan (state_after plan visits) visit
unfolding state_after
after-visit plan visits visit = refl

-- an earlier part of a run
pub earlier_run : (plan : CorePlan) (later q : List Visit) → ChainRun plan (later ++ q) → ChainRun plan q
earlier_run plan [] q run = run
earlier_run plan (v ∷ vs) q run = earlier_run plan vs q run.0

module _ (laws : MachineLaws) (plan : CorePlan) where
  pub change : (visits : List Visit) (visit : Visit) → ChangesOneStage plan (state_after plan visits) (state_after plan (visit ∷ visits)) visit
  change visits visit =
      subst (λ s. ChangesOneStage plan (state_after plan visits) s visit) (sym (after-visit plan visits visit)) (laws.changes plan (state_after plan visits) visit)

  -- what a stage was given grew at most
  pub given-more : (visits : List Visit) (visit : Visit) (j : ℕ) → (more : List Cell) × (((state_after plan (visit ∷ visits)).stages j).given ≡ ((state_after plan visits).stages j).given ++ more)
  given-more visits visit j =
      elim (cases_eq j visit.stage) [
        | inl same ↦ (visit.cells, subst (λ i. ((state_after plan (visit ∷ visits)).stages i).given ≡ ((state_after plan visits).stages i).given ++ visit.cells) (sym same) (change visits visit).given)
        | inr apart ↦ ([], ap (λ (s : StageState). s.given) ((change visits visit).others j apart) ∙ sym (append-nil ((state_after plan visits).stages j).given))
      ]

  module _ (users : UsersArePlugins plan) (visits : List Visit) (run : ChainRun plan visits) where
    pub given-taken : (k : ℕ) → length ((state_after plan visits).stages k).given ≤ ((state_after plan visits).stages k).taken
    given-taken k = (laws.hold plan visits k users run).given_within

    pub taken-given : (j : ℕ) → ((state_after plan visits).stages (suc j)).taken ≤ length ((state_after plan visits).stages j).given
    taken-given j = (laws.hold plan visits (suc j) users run).taken_within j refl
