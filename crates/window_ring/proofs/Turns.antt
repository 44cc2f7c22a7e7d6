-- A seat that has the turn.
use Rattle.std.proofs.Common.{◌-◌, ◌≡◌, ◌≢◌, ⊎_elim, ◌≤◌, ℕ, suc, List, [], ◌∷◌, ◌++◌, subst, sym, ap, ◌∙◌, arith}
use Rattle.atomic_table.specs.Table.{Me, Step, Allows}
use Rattle.window_ring.specs.declared.view.Key.{Key}
use Rattle.chain_core.specs.Machine.{Visit, Allowed, news_after}
use Rattle.chain_core.specs.ChainRun.{ChainRun, state_after}
use Rattle.window_ring.specs.declared.state.State.{State}
use Rattle.window_ring.specs.declared.view.View.{View}
use Rattle.chain_core.specs.declared.news.News.{News}
use Rattle.chain_core.specs.declared.stage_word.StageWord.{StageWord}
use Rattle.window_ring.specs.Hands.{Row}
use Rattle.window_ring.specs.Visits.{MayGive, Handed, IsHandOf, giving}
use Rattle.window_ring.proofs.Steps.{leave}
use Rattle.window_ring.specs.Turns.{Kept, Leaves, Took, Takes}
use Rattle.window_ring.specs.Stands.{visit_in, Stands}
use Rattle.window_ring.specs.Views.{land_of, NoneOf, at_rest, within}

pub record Turn (key : Key) (k : ℕ) (seen : List Visit) (w : Me State View) : Type 0 where
  pub value : State
  pub history : List Visit
  pub later : List Visit
  pub others : NoneOf k later
  pub is : history ≡ later ++ seen
  pub me : w ≡ (within key k seen history, (0, value) ∷ [])
  pub stands : Stands key value history
  pub run : ChainRun key.plan history

took : (key : Key) (k : ℕ) (seen : List Visit) (busy : List ℕ) (w : Me State View) → Took (at_rest key k seen busy, []) w → Turn key k seen w
took key k seen busy w t = record {
  value = t.value;
  history = t.history;
  later = t.since.0.0;
  others = t.since.0.1;
  is = t.since.0.2;
  me = λ i. (t.view i, t.carries i);
  stands = t.stands;
  run = t.run;
}

pub turn_of : (key : Key) (k : ℕ) (seen : List Visit) (busy : List ℕ) (st : Step State) (v w : Me State View) (n : ℕ) → v ≡ (at_rest key k seen busy, []) → n ≡ 0 → Takes st v n w → Turn key k seen w
turn_of key k seen busy st v w n rests free takes =
    ⊎_elim (λ t. took key k seen busy w t.1) (λ f. absurd (let i = f.is in omega (arith, free, i))) (subst (λ u. Takes st u n w) rests takes)

-- where it was found held, another stage holds it, and the seat remembers which
pub away_of : (key : Key) (k : ℕ) (seen : List Visit) (busy : List ℕ) (st : Step State) (v w : Me State View) (n : ℕ) → v ≡ (at_rest key k seen busy, []) → n ≢ 0 → Takes st v n w
    → (w ≡ (at_rest key k seen ((n - 1) ∷ busy), [])) × (n - 1 ≢ k) × (n - 1 ≤ suc key.plan.plugins)
away_of key k seen busy st v w n rests held takes =
    ⊎_elim (λ t. absurd (held t.0)) (λ f. let e : f.holder ≡ n - 1 = let i = f.is in omega (arith, i) in
    subst (λ h. (w ≡ (at_rest key k seen (h ∷ busy), [])) × (h ≢ k) × (h ≤ suc key.plan.plugins)) e (f.told, (λ e. f.another.0 (sym e)), f.stage)) (subst (λ u. Takes st u n w) rests takes)

abbrev pub top : State → List (ℕ × State) → State
top d [] = d
top d (x ∷ xs) = x.1

module _ (key : Key) (k : ℕ) (seen history : List Visit) (old new : State) (hand hand_new : Row) (done : ℕ) (word : StageWord) (news : News) (st : Step State) where
  abbrev visit : Visit
  visit = giving hand k done word

  abbrev me : Me State View
  me = (within key k seen history, (0, new) ∷ [])

  -- the turn may be left
  pub leaves_turn : (id : ℕ) → MayGive key old history hand k done word → Handed key new history hand hand_new k done word news → Allows (Kept key) 1 id me 0 (λ _. 0) (λ _. Leaves st me 0)
  leaves_turn id may d =
      leave key id k seen history new st (ap (λ v. v.stage) d.last) (subst (λ v. Stands key new (v ∷ history)) (sym d.last) d.stands) (subst (Allowed key.plan (state_after key.plan history)) (sym d.last) may.allowed)

  -- and then the visit is one event of the run
  pub left_turn : (w : Me State View) (later : List Visit) → MayGive key old history hand k done word → Handed key new history hand hand_new k done word news → Leaves st me 0 w → history ≡ later ++ seen
      → (w ≡ (at_rest key k (visit ∷ (later ++ seen)) [], [])) × ChainRun key.plan (visit ∷ (later ++ seen)) × (news ≡ news_after key.plan (state_after key.plan (later ++ seen)) visit)
      × IsHandOf (state_after key.plan (visit ∷ (later ++ seen))) k (land_of key) hand_new
  left_turn w later may d l is =
      let value : l.value ≡ new = ap (top new) (sym l.carried) in
      let last : visit_in key.plan l.value ≡ visit = ap (visit_in key.plan) value ∙ d.last in
      let rests : w ≡ (at_rest key k (visit ∷ (later ++ seen)) [], []) = l.left ∙ (λ i. (at_rest key (last i).stage (last i ∷ is i) [], [])) in
      let Run = λ (h : List Visit). ChainRun key.plan (visit ∷ h) × (news ≡ news_after key.plan (state_after key.plan h) visit) × IsHandOf (state_after key.plan (visit ∷ h)) k (land_of key) hand_new in
      let all : Run (later ++ seen) = subst Run is ((may.run, may.allowed), d.news_is, d.hand_is) in
      (rests, all.0, all.1, all.2)
