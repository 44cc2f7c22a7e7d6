-- What can be said of a seat through its own visits and those of others. This project's own rule.
use Rattle.std.specs.Prelude.{◌≡◌, ℕ, List, [], ◌∷◌, ◌++◌}
use Rattle.atomic_table.specs.Seated.{TableId}
use Rattle.chain_core.specs.declared.core_plan.CorePlan.{CorePlan}
use Rattle.chain_core.specs.declared.news.News.{News}
use Rattle.chain_core.specs.declared.stage_word.StageWord.{StageWord}
use Rattle.chain_core.specs.Numbers.{UsersArePlugins}
use Rattle.chain_core.specs.Machine.{Visit}
use Rattle.chain_core.specs.ChainRun.{state_after}
use Rattle.window_ring.specs.declared.view.Key.{Key}
use Rattle.window_ring.specs.declared.stage_seat.StageSeat.{StageSeat}
use Rattle.window_ring.specs.Views.{at_rest, NoneOf}
use Rattle.window_ring.specs.Seats.{seen_of, busy_of, IsSeat, Went}
use Rattle.window_ring.specs.Opening.{IsFresh}

pub record SeatLaws : Type 0 where
  -- what others visit changes nothing of a stage
  pub stays : (plan : CorePlan) (k : ℕ) (later seen : List Visit) → UsersArePlugins plan → NoneOf k later
      → (state_after plan (later ++ seen)).stages k ≡ (state_after plan seen).stages k
  -- a seat of which no visit was made is one
  pub fresh : (key : Key) (table : TableId) (seat : StageSeat) → IsFresh key table seat.stage seat
      → IsSeat key table seat
  -- it is one again after a visit that it made
  pub again : (key : Key) (table : TableId) (old new : StageSeat) (done : ℕ) (word : StageWord) (news : News)
      → Went key old new done word news → new.stage ≡ old.stage → new.seat.table_id ≡ old.seat.table_id
      → IsSeat key table old → IsSeat key table new
  -- and after one that found the turn held
  pub still : (key : Key) (table : TableId) (old new : StageSeat) (holder : ℕ)
      → new.seat.me ≡ (at_rest key old.stage (seen_of old) (holder ∷ busy_of old), []) → new.hand ≡ old.hand
      → new.stage ≡ old.stage → new.seat.table_id ≡ old.seat.table_id
      → IsSeat key table old → IsSeat key table new
