-- What a stage knows of the run stays true through the visits of the others.
use Rattle.std.proofs.Common.{◌≡◌, ℕ, ◌+◌, ◌≤◌, List, [], ◌∷◌, ◌++◌, length, sym, refl, ap, ◌∙◌, subst}
use Rattle.chain_core.specs.declared.core_plan.CorePlan.{CorePlan}
use Rattle.chain_core.specs.declared.stage_word.StageWord.{StageWord}
use Rattle.chain_core.specs.Numbers.{UsersArePlugins}
use Rattle.chain_core.specs.Machine.{Visit, visited, ChainState, Allowed}
use Rattle.chain_core.specs.ChainRun.{ChainRun, state_after}
use Rattle.chain_core.specs.Laws.{ChangesOneStage, LeavesOthers}
use Rattle.cell_land.specs.Cells.{CellLand as Land}
use Rattle.window_ring.specs.Hands.{Row}
use Rattle.window_ring.specs.declared.state.State.{State}
use Rattle.chain_core.specs.CoreNumbers.{IsValidPlan}
use Rattle.window_ring.specs.declared.view.Key.{Key}
use Rattle.window_ring.specs.Views.{NoneOf, land_of}
use Rattle.window_ring.specs.Stands.{Stands}
use Rattle.window_ring.specs.Visits.{IsHandOf, MayGive, giving}

module _ (plan : CorePlan) (users : UsersArePlugins plan)
    (changes : (plan : CorePlan) (state : ChainState) (visit : Visit) → ChangesOneStage plan state (visited plan state visit) visit)
    (leaves : (plan : CorePlan) (visits : List Visit) (visit : Visit) → UsersArePlugins plan → ChainRun plan (visit ∷ visits) → LeavesOthers plan (state_after plan visits) (state_after plan (visit ∷ visits)) visit) where
  pub stage_stays : (k : ℕ) (later seen : List Visit) → NoneOf k later → (state_after plan (later ++ seen)).stages k ≡ (state_after plan seen).stages k
  unfolding state_after
  stage_stays k [] seen none = refl
  stage_stays k (v ∷ vs) seen none = (changes plan (state_after plan (vs ++ seen)) v).others k (λ e. none.0 (sym e)) ∙ stage_stays k vs seen none.1

  pub allowed_stays : (visit : Visit) (later seen : List Visit) → NoneOf visit.stage later → ChainRun plan (later ++ seen) → Allowed plan (state_after plan seen) visit → Allowed plan (state_after plan (later ++ seen)) visit
  allowed_stays visit [] seen none run may = may
  allowed_stays visit (v ∷ vs) seen none run may = (leaves plan (vs ++ seen) v users run).allowed visit (λ e. none.0 (sym e)) (allowed_stays visit vs seen none.1 run.0 may)

  pub hand_stays : (k : ℕ) (land : Land) (hand : Row) (later seen : List Visit) → NoneOf k later → IsHandOf (state_after plan seen) k land hand → IsHandOf (state_after plan (later ++ seen)) k land hand
  hand_stays k land hand later seen none h =
      let same = sym (stage_stays k later seen none) in
      record { at = h.at ∙ ap (λ z. length z.given) same; cells = subst (λ z. length hand.cells + length z.given ≡ z.taken) same h.cells; same = h.same }

-- a seat that has the turn may make its visit
module _ (key : Key) (valid : IsValidPlan key.plan)
    (changes : (plan : CorePlan) (state : ChainState) (visit : Visit) → ChangesOneStage plan state (visited plan state visit) visit)
    (leaves : (plan : CorePlan) (visits : List Visit) (visit : Visit) → UsersArePlugins plan → ChainRun plan (visit ∷ visits) → LeavesOthers plan (state_after plan visits) (state_after plan (visit ∷ visits)) visit) where
  pub may_give : (value : State) (history later seen : List Visit) (hand : Row) (k done : ℕ) (word : StageWord) → Stands key value history → ChainRun key.plan history → history ≡ later ++ seen → NoneOf k later
      → IsHandOf (state_after key.plan seen) k (land_of key) hand → done ≤ length hand.cells → Allowed key.plan (state_after key.plan seen) (giving hand k done word) → MayGive key value history hand k done word
  may_give value history later seen hand k done word stands run is none h within may = record {
    stands = stands;
    run = run;
    valid = valid;
    hand_is = subst (λ l. IsHandOf (state_after key.plan l) k (land_of key) hand) (sym is) (hand_stays key.plan valid.users changes leaves k (land_of key) hand later seen none h);
    done_within = within;
    allowed = subst (λ l. Allowed key.plan (state_after key.plan l) (giving hand k done word)) (sym is) (allowed_stays key.plan valid.users changes leaves (giving hand k done word) later seen none (subst (ChainRun key.plan) is run) may);
  }
