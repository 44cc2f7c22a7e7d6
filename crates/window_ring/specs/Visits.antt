-- What one visit of the ring does. This project's own rule.
use Rattle.std.specs.Prelude.{◌≡◌, ℕ, suc, ◌+◌, ◌-◌, ◌≤◌, List, ◌∷◌, length, take, drop}
use Rattle.ts_packet.specs.declared.cell.Cell.{Cell}
use Rattle.cell_land.specs.Cells.{CellLand as Land}
use Rattle.chain_core.specs.declared.news.News.{News}
use Rattle.chain_core.specs.declared.stage_word.StageWord.{StageWord}
use Rattle.chain_core.specs.CoreNumbers.{IsValidPlan}
use Rattle.window_ring.specs.declared.view.Key.{Key}
use Rattle.chain_core.specs.Machine.{Visit, visit_of, news_after, ChainState, Allowed}
use Rattle.chain_core.specs.ChainRun.{ChainRun, state_after}
use Rattle.window_ring.specs.Hands.{Row}
use Rattle.window_ring.specs.declared.state.State.{State}
use Rattle.window_ring.specs.Stands.{Stands, visit_in}
use Rattle.window_ring.specs.Views.{land_of}

-- the visit of a stage that gives the first `done` cells of its hand
abbrev pub giving : Row → ℕ → ℕ → StageWord → Visit
giving hand stage done word = visit_of stage (take done hand.cells) word

-- the hand of a stage is the cells that it took and has not given
pub record IsHandOf (state : ChainState) (stage : ℕ) (land : Land) (hand : Row) : Type 0 where
  pub at : hand.at ≡ length (state.stages stage).given
  pub cells : length hand.cells + length (state.stages stage).given ≡ (state.stages stage).taken
  pub same : hand.land ≡ land

-- a stage after another took these cells: of those that the other gave, the next ones
abbrev pub Brings : ChainState → ℕ → List Cell → News → Type 0
Brings state stage cells news = (j : ℕ) → stage ≡ suc j
    → cells ≡ take (news.taken - (state.stages stage).taken)
    (drop (state.stages stage).taken (state.stages j).given)

-- the value stands for this history, and the stage may make the visit
pub record MayGive (key : Key) (value : State) (history : List Visit) (hand : Row) (stage done : ℕ)
    (word : StageWord) : Type 0 where
  pub stands : Stands key value history
  pub run : ChainRun key.plan history
  pub valid : IsValidPlan key.plan
  pub hand_is : IsHandOf (state_after key.plan history) stage (land_of key) hand
  pub done_within : done ≤ length hand.cells
  pub allowed : Allowed key.plan (state_after key.plan history) (giving hand stage done word)

-- the visit was made
pub record Handed (key : Key) (new : State) (history : List Visit) (hand hand_new : Row) (stage done : ℕ)
    (word : StageWord) (news : News) : Type 0 where
  pub stands : Stands key new (giving hand stage done word ∷ history)
  pub last : visit_in key.plan new ≡ giving hand stage done word
  pub hand_is : IsHandOf (state_after key.plan (giving hand stage done word ∷ history)) stage (land_of key)
      hand_new
  pub news_is : news ≡ news_after key.plan (state_after key.plan history) (giving hand stage done word)
  pub front : take (length hand.cells - done) hand_new.cells ≡ drop done hand.cells
  pub fresh : Brings (state_after key.plan history) stage
      (drop (length hand.cells - done) hand_new.cells) news
