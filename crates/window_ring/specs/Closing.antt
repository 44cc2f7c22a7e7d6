-- The close of a ring. This project's own rule.
use Rattle.std.specs.Prelude.{◌≡◌, ◌⊎◌, ℕ, suc, ◌+◌, ◌<◌, ◌≤◌, List, [], ◌∷◌, length, slice_index_or, IsSome}
use Rattle.atomic_table.specs.Seated.{TableId}
use Rattle.chain_core.specs.declared.closed.Closed.{Closed}
use Rattle.chain_core.specs.Machine.{Visit, ChainState, progress_of_stages}
use Rattle.chain_core.specs.ChainRun.{ChainRun, state_after}
use Rattle.chain_core.specs.CoreNumbers.{IsValidPlan}
use Rattle.chain_core.specs.Close.{closed_of}
use Rattle.window_ring.specs.Hands.{Row, no_row}
use Rattle.window_ring.specs.declared.state.State.{State}
use Rattle.window_ring.specs.declared.view.Key.{Key}
use Rattle.window_ring.specs.declared.view.Holding.{Holding}
use Rattle.window_ring.specs.declared.stage_seat.StageSeat.{StageSeat}
use Rattle.window_ring.specs.declared.closing.Left.{Left}
use Rattle.window_ring.specs.Views.{Since, land_of}
use Rattle.chain_model.specs.Each.{Each}
use Rattle.window_ring.specs.Stands.{Stands}
use Rattle.window_ring.specs.Seats.{seen_of, IsSeat}

-- one of these is of stage `k`
abbrev pub Has : ℕ → List Holding → Type 0
Has k [] = ⊥
Has k (h ∷ hs) = (h.stage ≡ k) ⊎ Has k hs

-- each stage has its holding
abbrev pub CoversAll : Key → List Holding → Type 0
CoversAll key held = (k : ℕ) → k ≤ suc key.plan.plugins → Has k held

-- there is one history, of which each holding has seen a part, and the value stands for it
pub record Opened (key : Key) (held : List Holding) (value : State) : Type 0 where
  pub history : List Visit
  pub run : ChainRun key.plan history
  pub since : Each (λ (h : Holding). Since h.stage h.seen history) held
  pub stands : Stands key value history

-- by what was seen of it, the stage has ended
abbrev pub HasEnded : Key → ℕ → List Visit → Type 0
HasEnded key k seen = IsSome ((state_after key.plan seen).stages k).ended

-- the seat of stage `k`, which has ended
pub record IsDone (key : Key) (table : TableId) (k : ℕ) (seat : StageSeat) : Type 0 where
  pub stage : seat.stage ≡ k
  pub seat_is : IsSeat key table seat
  pub ended : HasEnded key k (seen_of seat)

-- the seats of the first stages, and holdings of the others
pub record Covering (key : Key) (table : TableId) (held : List Holding) (seats : List StageSeat)
    : Type 0 where
  pub valid : IsValidPlan key.plan
  pub few : length seats ≤ suc key.plan.plugins
  pub seats_are : (k : ℕ) (d : StageSeat) → k < length seats → IsDone key table k (slice_index_or seats k d)
  pub done : Each (λ (h : Holding). HasEnded key h.stage h.seen) held
  pub covers : (k : ℕ) → k ≤ suc key.plan.plugins → (k < length seats) ⊎ Has k held

-- what lies on the link to stage `suc k`
abbrev pub Linked : Key → ChainState → ℕ → Row → Type 0
Linked key state k row = (row.at ≡ (state.stages (suc k)).taken) × (row.land ≡ land_of key)
    × (length row.cells + (state.stages (suc k)).taken ≡ length (state.stages k).given)

-- the cells from those that stage `j` took to the last ones are in one hand, and the links after it are left
pub record Parted (key : Key) (state : ChainState) (j : ℕ) (left : Left) : Type 0 where
  pub closed : left.closed ≡ closed_of key.plan (progress_of_stages state)
  pub at : left.all.at ≡ (state.stages j).taken
  pub land : left.all.land ≡ land_of key
  pub many : length left.all.cells + (state.stages j).taken
      ≡ length (state.stages (suc key.plan.plugins)).given + key.plan.buffer
  pub links : length left.links.items + j ≡ suc key.plan.plugins
  pub link : (i k : ℕ) → k ≡ j + i → i < length left.links.items
      → Linked key state k (slice_index_or left.links.items i no_row)

-- the hands of the other stages and the cells after them are together: there is one run, of which the seats and the
-- holdings have seen their parts
pub record Gathered (key : Key) (held : List Holding) (seats : List StageSeat) (left : Left) : Type 0 where
  pub history : List Visit
  pub run : ChainRun key.plan history
  pub held_since : Each (λ (h : Holding). Since h.stage h.seen history) held
  pub seats_since : (k : ℕ) (d : StageSeat) → k < length seats
      → Since k (seen_of (slice_index_or seats k d)) history
  pub parted : Parted key (state_after key.plan history) (length seats) left

-- all seats of a ring, and its root
pub record IsWhole (key : Key) (table : TableId) (seats : List StageSeat) : Type 0 where
  pub valid : IsValidPlan key.plan
  pub all : length seats ≡ suc (suc key.plan.plugins)
  pub seats_are : (k : ℕ) (d : StageSeat) → k < length seats → IsDone key table k (slice_index_or seats k d)

-- there is one run of the machine, of which each seat has seen a part, and the cut and the cause are the
-- machine's
pub record ClosedOf (key : Key) (seats : List StageSeat) (closed : Closed) : Type 0 where
  pub history : List Visit
  pub run : ChainRun key.plan history
  pub since : (k : ℕ) (d : StageSeat) → k ≤ suc key.plan.plugins
      → Since k (seen_of (slice_index_or seats k d)) history
  pub closed_is : closed ≡ closed_of key.plan (progress_of_stages (state_after key.plan history))
