-- The rule of the ring: one run of the machine, of which each seat has seen a part. This project's own rule.
use Rattle.std.specs.Prelude.{◌≡◌, ◌≢◌, ◌⊎◌, ℕ, suc, ◌<◌, ◌≤◌, List, [], ◌∷◌, true, false}
use mathlib.Core.Option.{none, some}
use lib.ListN.{get_elem?}
use Rattle.atomic_table.specs.Table as table
use Rattle.atomic_table.specs.Table.{Me, Step}
use Rattle.chain_core.specs.Machine.{Visit}
use Rattle.chain_core.specs.ChainRun.{ChainRun}
use Rattle.window_ring.specs.Views.{Since, at_rest}
use Rattle.chain_model.specs.Each.{Each}
use Rattle.window_ring.specs.Stands.{Stands, visit_in}
use Rattle.window_ring.specs.declared.state.State.{State}
use Rattle.window_ring.specs.declared.view.Key.{Key}
use Rattle.window_ring.specs.declared.view.View.{View}
use Rattle.window_ring.specs.declared.view.Holding.{Holding}

-- what a seat knows is true of the history: each stage has one owner, and the root alone counts the seats
-- made
pub record Knows (key : Key) (history : List Visit) (owner : ℕ → ℕ) (root made id : ℕ) (v : View)
    : Type 0 where
  pub held : Each (λ (h : Holding). (owner h.stage ≡ id) × (h.stage < made) × Since h.stage h.seen history)
      v.held
  pub is_root : v.is_root ≡ true → (id ≡ root) × (v.made ≡ made)

-- no seat has the turn, and the value is in its slot
pub record IsFree (key : Key) (s : table.State State View) (history : List Visit) : Type 0 where
  pub word : s.words ≡ 0 ∷ []
  pub value : State
  pub home : s.homes ≡ some value ∷ []
  pub stands : Stands key value history
  pub outside : (id : ℕ) (v : View) → get_elem? s.views id ≡ some v → v.inside ≡ false

-- the seat of stage `k` has the turn, and the value
pub record IsTaken (key : Key) (s : table.State State View) (history : List Visit) (owner : ℕ → ℕ) (made : ℕ)
    : Type 0 where
  pub k : ℕ
  pub stage : k ≤ suc key.plan.plugins
  pub word : s.words ≡ suc k ∷ []
  pub home : s.homes ≡ none ∷ []
  pub inside : (id : ℕ) (v : View) → get_elem? s.views id ≡ some v → v.inside ≡ true
      → (id ≡ owner k) × (v.at ≡ history)
  pub seated : k < made
  pub by : (v : View) × (get_elem? s.views (owner k) ≡ some v) × (v.inside ≡ true)

-- there is one run of the machine, and what each seat knows is true of it
pub record Kept (key : Key) (s : table.State State View) : Type 0 where
  pub history : List Visit
  pub owner : ℕ → ℕ
  pub root : ℕ
  pub made : ℕ
  pub run : ChainRun key.plan history
  pub seated : Each (λ (v : Visit). v.stage < made) history
  pub knows : (id : ℕ) (v : View) → get_elem? s.views id ≡ some v → Knows key history owner root made id v
  pub turn : IsFree key s history ⊎ IsTaken key s history owner made

-- the turn was taken: the seat has the value, which stands for a history that it has seen a part of
pub record Took (v w : Me State View) : Type 0 where
  pub history : List Visit
  pub value : State
  pub carries : w.1 ≡ (0, value) ∷ []
  pub view : w.0
      ≡ record {
        key = v.0.key;
        is_root = v.0.is_root;
        made = v.0.made;
        held = v.0.held;
        inside = true;
        at = history;
        busy = [];
      }
  pub stands : Stands v.0.key value history
  pub run : ChainRun v.0.key.plan history
  pub since : Each (λ (h : Holding). Since h.stage h.seen history) v.0.held

-- the same seat, which found this stage with the turn
abbrev pub turned_away : View → ℕ → View
turned_away v holder = record {
  key = v.key;
  is_root = v.is_root;
  made = v.made;
  held = v.held;
  inside = v.inside;
  at = v.at;
  busy = holder ∷ v.busy;
}

-- the turn was found held, by another stage
pub record Found (v : Me State View) (n : ℕ) (w : Me State View) : Type 0 where
  pub holder : ℕ
  pub told : w ≡ (turned_away v.0 holder, v.1)
  pub is : n ≡ suc holder
  pub stage : holder ≤ suc v.0.key.plan.plugins
  pub another : Each (λ (h : Holding). h.stage ≢ holder) v.0.held

-- what the compare returns: 0 where the turn is taken, else one more than the stage that holds it
abbrev pub Takes : Step State → Me State View → ℕ → Me State View → Type 0
Takes step v n w = ((n ≡ 0) × Took v w) ⊎ Found v n w

-- the turn was left, and the value's last visit is one event of the run
pub record Leaves (step : Step State) (v : Me State View) (n : ℕ) (w : Me State View) : Type 0 where
  pub value : State
  pub carried : v.1 ≡ (0, value) ∷ []
  pub left : w
      ≡ (at_rest v.0.key (visit_in v.0.key.plan value).stage (visit_in v.0.key.plan value ∷ v.0.at) [], [])
