-- A seat, and what one visit of the ring does to it. This project's own rule.
use Rattle.std.specs.Prelude.{◌≡◌, ◌≢◌, ℕ, suc, ◌-◌, ◌<◌, ◌≤◌, List, [], ◌∷◌, ◌++◌, length, take, drop}
use Rattle.atomic_table.specs.Seated.{TableId}
use Rattle.chain_core.specs.declared.news.News.{News}
use Rattle.chain_core.specs.declared.stage_word.StageWord.{StageWord}
use Rattle.chain_core.specs.CoreNumbers.{IsValidPlan}
use Rattle.chain_core.specs.Machine.{Visit, news_after, Allowed}
use Rattle.chain_core.specs.ChainRun.{ChainRun, state_after}
use Rattle.window_ring.specs.declared.ring.Ring.{Ring}
use Rattle.window_ring.specs.declared.stage_seat.StageSeat.{StageSeat}
use Rattle.window_ring.specs.declared.visited.Visited.{Visited}
use Rattle.window_ring.specs.declared.visited.Visited.TheVariants.{Busy, Given}
use Rattle.window_ring.specs.declared.view.Key.{Key}
use Rattle.window_ring.specs.declared.view.Holding.{Holding}
use Rattle.window_ring.specs.Views.{at_rest, land_of, NoneOf}
use Rattle.window_ring.specs.Visits.{giving, IsHandOf, Brings}

-- what never changes of the ring
abbrev pub key_of : Ring → Key
key_of ring = ring.table.shared.key

-- which ring it is
abbrev pub table_of : Ring → TableId
table_of ring = ring.table.shared.table_id

-- the visits that a seat at rest has seen
abbrev pub seen_in : List Holding → List Visit
seen_in [] = []
seen_in (h ∷ hs) = h.seen

-- and of a stage's seat
abbrev pub seen_of : StageSeat → List Visit
seen_of seat = seen_in seat.seat.me.0.held

-- the stages that it found with the turn since its last visit
abbrev pub busy_of : StageSeat → List ℕ
busy_of seat = seat.seat.me.0.busy

-- the seat of a stage at rest in this ring: what it has seen is a run, and in its hands are the cells that
-- the stage has taken and not given by that run
pub record IsSeat (key : Key) (table : TableId) (seat : StageSeat) : Type 0 where
  pub of_table : seat.seat.table_id ≡ table
  pub rests : seat.seat.me ≡ (at_rest key seat.stage (seen_of seat) (busy_of seat), [])
  pub run : ChainRun key.plan (seen_of seat)
  pub hand_is : IsHandOf (state_after key.plan (seen_of seat)) seat.stage (land_of key) seat.hand

-- the seat rests, and by what it has seen its stage may make this visit
pub record IsAt (key : Key) (table : TableId) (seat : StageSeat) (done : ℕ) (word : StageWord) : Type 0 where
  pub seat_is : IsSeat key table seat
  pub words : 0 < table.words
  pub slots : table.slots ≡ 1
  pub valid : IsValidPlan key.plan
  pub done_within : done ≤ length seat.hand.cells
  pub allowed : Allowed key.plan (state_after key.plan (seen_of seat)) (giving seat.hand seat.stage done word)

-- the visit that a seat makes
abbrev pub visit_from : StageSeat → ℕ → StageWord → Visit
visit_from seat done word = giving seat.hand seat.stage done word

-- the visit was made: it is one event of the run, after those that were seen and some of the other stages;
-- the seat has seen it; the news are the machine's; and in its hands are the cells not given and after
-- them those taken
pub record Went (key : Key) (old new : StageSeat) (done : ℕ) (word : StageWord) (news : News) : Type 0 where
  pub between : List Visit
  pub of_others : NoneOf old.stage between
  pub rests : new.seat.me ≡ (at_rest key old.stage (visit_from old done word ∷ (between ++ seen_of old)) [], [])
  pub run : ChainRun key.plan (visit_from old done word ∷ (between ++ seen_of old))
  pub news_is : news
      ≡ news_after key.plan (state_after key.plan (between ++ seen_of old)) (visit_from old done word)
  pub hand_is : IsHandOf (state_after key.plan (visit_from old done word ∷ (between ++ seen_of old)))
      old.stage (land_of key) new.hand
  pub front : take (length old.hand.cells - done) new.hand.cells ≡ drop done old.hand.cells
  pub fresh : Brings (state_after key.plan (between ++ seen_of old)) old.stage
      (drop (length old.hand.cells - done) new.hand.cells) news

-- the compare found another stage with the turn and nothing changed, which the seat remembers; or the visit was
-- made
abbrev pub HasVisited : Key → StageSeat → StageSeat → ℕ → StageWord → Visited → Type 0
HasVisited key old new done word (Busy holder) =
    (new.seat.me ≡ (at_rest key old.stage (seen_of old) (holder ∷ busy_of old), [])) × (new.hand ≡ old.hand)
    × (holder ≢ old.stage) × (holder ≤ suc key.plan.plugins)
HasVisited key old new done word (Given news) = Went key old new done word news
