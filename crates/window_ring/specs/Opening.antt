-- A new ring. This project's own rule.
use Rattle.std.specs.Prelude.{◌≡◌, ℕ, suc, ◌<◌, List, [], ◌∷◌, length, slice_index_or}
use Rattle.atomic_table.specs.Seated.{TableId}
use Rattle.chain_core.specs.declared.core_plan.CorePlan.{CorePlan}
use Rattle.window_ring.specs.Hands.{row_of}
use Rattle.window_ring.specs.declared.view.Key.{Key}
use Rattle.window_ring.specs.declared.state.State.{State}
use Rattle.window_ring.specs.declared.opening.NewRing.{NewRing}
use Rattle.window_ring.specs.Stands.{Stands}
use Rattle.chain_core.specs.CoreNumbers.{IsValidPlan}
use Rattle.window_ring.specs.declared.stage_seat.StageSeat.{StageSeat}
use Rattle.window_ring.specs.Views.{at_rest, root_view, land_of}

-- the seat of stage `k`, which has made no visit
pub record IsFresh (key : Key) (table : TableId) (k : ℕ) (seat : StageSeat) : Type 0 where
  pub of_table : seat.seat.table_id ≡ table
  pub stage : seat.stage ≡ k
  pub rests : seat.seat.me ≡ (at_rest key k [] [], [])
  pub hand : seat.hand ≡ row_of 0 (land_of key) []

-- the seats of the first stages, none of which has made a visit
abbrev pub AreFresh : Key → TableId → List StageSeat → Type 0
AreFresh key table seats = (k : ℕ) (d : StageSeat) → k < length seats
    → IsFresh key table k (slice_index_or seats k d)

-- one value, which stands for no visit
pub record IsReady (plan : CorePlan) (key : Key) (slots : List State) : Type 0 where
  pub valid : IsValidPlan plan
  pub plan_is : key.plan ≡ plan
  pub value : State
  pub one : slots ≡ value ∷ []
  pub stands : Stands key value []

-- a ring of this plan, of which no visit was made
pub record IsNew (plan : CorePlan) (r : NewRing) : Type 0 where
  pub plan_is : r.ring.table.shared.key.plan ≡ plan
  pub words : r.ring.table.shared.table_id.words ≡ 1
  pub slots : r.ring.table.shared.table_id.slots ≡ 1
  pub of_table : r.root.table_id ≡ r.ring.table.shared.table_id
  pub root : r.root.me ≡ (root_view r.ring.table.shared.key (suc (suc plan.plugins)) [], [])
  pub all : length r.seats.items ≡ suc (suc plan.plugins)
  pub fresh : AreFresh r.ring.table.shared.key r.ring.table.shared.table_id r.seats.items
