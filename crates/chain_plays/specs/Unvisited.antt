-- A seat of a play's ring before any visit. This project's own rule.
use Rattle.std.specs.Prelude.{◌≡◌, ℕ, List, []}
use Rattle.atomic_table.specs.Seated.{TableId}
use Rattle.window_ring.specs.declared.view.Key.{Key}
use Rattle.window_ring.specs.declared.stage_seat.StageSeat.{StageSeat}
use Rattle.window_ring.specs.Hands.{row_of}
use Rattle.window_ring.specs.Views.{at_rest, land_of}

-- the seat of stage `k`, which has made no visit, but may have found the turn held
pub record IsUnvisited (key : Key) (table : TableId) (k : ℕ) (seat : StageSeat) : Type 0 where
  pub of_table : seat.seat.table_id ≡ table
  pub stage : seat.stage ≡ k
  pub busy : List ℕ
  pub rests : seat.seat.me ≡ (at_rest key k [] busy, [])
  pub hand : seat.hand ≡ row_of 0 (land_of key) []
