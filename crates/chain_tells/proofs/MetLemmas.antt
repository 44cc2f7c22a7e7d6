-- What the plugins of a chain met, and how much the output has given.
use Rattle.std.proofs.Common.{◌≡◌, ℕ, suc, ◌+◌, ◌<◌, ◌≤◌, List, [], ◌∷◌, ◌++◌, length, take, Option, Some, None, refl, ap, sym, ◌∙◌, arith, append_assoc, append-nil, length-append, length-take}
use Rattle.std.specs.Prelude.{min}
use Rattle.std.proofs.lemmas.List.{take-take, take-append-le}
use Rattle.ts_packet.specs.declared.cell.Cell.{Cell}
use Rattle.chain_model.specs.Cut.{lesser_end}
use Rattle.chain_core.specs.declared.core_plan.CorePlan.{CorePlan}
use Rattle.chain_core.specs.Numbers.{UsersArePlugins, limit_of, written_of}
use Rattle.chain_core.specs.Machine.{ChainState, Visit, progress_of_stages}
use Rattle.chain_core.specs.ChainRun.{ChainRun, state_after}
use Rattle.chain_core.proofs.Soundness.{run-sound, users_from}
use Rattle.chain_run.specs.Laws.{MachineLaws}
use Rattle.chain_run.proofs.NumberLaws.{given-falls, given-more}
use Rattle.chain_run.proofs.RanLemmas.{earlier_run}
use Rattle.chain_tells.specs.Taking.{met_in}

lesser-is : (given : ℕ) (limit : Option ℕ) → ((n : ℕ) → limit ≡ Some n → given ≤ n) → lesser_end given limit ≡ given
lesser-is given None within = refl
lesser-is given (Some n) within = let a = within n refl in omega arith

module _ (laws : MachineLaws) (plan : CorePlan) (users : UsersArePlugins plan) where
  module _ (visits : List Visit) (run : ChainRun plan visits) where
    abbrev state : ChainState
    state = state_after plan visits

    -- the output never gives more than the limit, so what is written is what it has given
    pub written-is : written_of plan (progress_of_stages state) ≡ length (state.stages (suc plan.plugins)).given
    written-is =
        lesser-is (length (state.stages (suc plan.plugins)).given) (limit_of plan (progress_of_stages state))
        (λ n is. ((run-sound plan (users_from plan users) visits run).limited n is).0)

    -- each plugin met what the output has given
    pub met-enough : (w j : ℕ) → j < plan.plugins → w ≤ length (state.stages (suc plan.plugins)).given → w ≤ length (met_in state j)
    met-enough w j lt le =
        let a : length (state.stages (suc plan.plugins)).given ≤ length (state.stages (suc j)).given = given-falls laws plan users visits run (suc plan.plugins) (suc j) (omega arith) in
        let b : length (state.stages (suc j)).given ≤ length (state.stages j).given = given-falls laws plan users visits run (suc j) j (omega arith) in
        let c : length (met_in state j) ≡ min (length (state.stages (suc j)).given) (length (state.stages j).given) = length-take (length (state.stages (suc j)).given) (state.stages j).given in
        omega arith

    pub met-first : (w j : ℕ) → j < plan.plugins → w ≤ length (state.stages (suc plan.plugins)).given → take w (met_in state j) ≡ take w (state.stages j).given
    met-first w j lt le =
        let a : length (state.stages (suc plan.plugins)).given ≤ length (state.stages (suc j)).given = given-falls laws plan users visits run (suc plan.plugins) (suc j) (omega arith) in
        take-take w (length (state.stages (suc j)).given) (state.stages j).given (omega arith)

  -- what a stage gave grows by visits
  grown : (more visits : List Visit) → ChainRun plan (more ++ visits) → (k : ℕ)
      → (cells : List Cell) × (((state_after plan (more ++ visits)).stages k).given ≡ ((state_after plan visits).stages k).given ++ cells)
  grown [] visits run k = ([], sym (append-nil ((state_after plan visits).stages k).given))
  grown (visit ∷ more) visits run k =
      let first = grown more visits run.0 k in
      let next = given-more laws plan users (more ++ visits) visit run k in
      (first.0 ++ next.0, next.1 ∙ (ap (λ (l : List Cell). l ++ next.0) first.1 ∙ append_assoc ((state_after plan visits).stages k).given first.0 next.0))

  -- the first cells that each plugin met stay
  pub met-stays : (more visits : List Visit) → ChainRun plan (more ++ visits) → (w j : ℕ) → j < plan.plugins
      → w ≤ length ((state_after plan visits).stages (suc plan.plugins)).given
      → take w (met_in (state_after plan visits) j) ≡ take w (met_in (state_after plan (more ++ visits)) j)
  met-stays more visits run w j lt le =
      let early : ChainRun plan visits = earlier_run plan more visits run in
      let out = grown more visits run (suc plan.plugins) in
      let own = grown more visits run j in
      let old : List Cell = ((state_after plan visits).stages j).given in
      let a : length ((state_after plan visits).stages (suc plan.plugins)).given ≤ length old = given-falls laws plan users visits early (suc plan.plugins) j (omega arith) in
      let b : length ((state_after plan (more ++ visits)).stages (suc plan.plugins)).given ≡ length ((state_after plan visits).stages (suc plan.plugins)).given + length out.0 =
      ap (λ (l : List Cell). length l) out.1 ∙ length-append ((state_after plan visits).stages (suc plan.plugins)).given out.0 in
      met-first visits early w j lt le
      ∙ (sym (take-append-le w old own.0 (omega arith))
      ∙ (sym (ap (take w) own.1)
      ∙ sym (met-first (more ++ visits) run w j lt (omega arith))))

  pub given-stays : (more visits : List Visit) → ChainRun plan (more ++ visits) → (w : ℕ)
      → w ≤ length ((state_after plan visits).stages (suc plan.plugins)).given
      → w ≤ length ((state_after plan (more ++ visits)).stages (suc plan.plugins)).given
  given-stays more visits run w le =
      let out = grown more visits run (suc plan.plugins) in
      let b : length ((state_after plan (more ++ visits)).stages (suc plan.plugins)).given ≡ length ((state_after plan visits).stages (suc plan.plugins)).given + length out.0 =
      ap (λ (l : List Cell). length l) out.1 ∙ length-append ((state_after plan visits).stages (suc plan.plugins)).given out.0 in
      omega arith
