-- A stage's work on the cells in its hands, and its turn. This project's own rule.
use Rattle.std.specs.Prelude.{◌≡◌, ◌≢◌, ◌⊎◌, ℕ, suc, ◌<◌, ◌≤◌, ◌&&◌, List, [], ◌∷◌, ◌++◌, length, Bool, not, None, IsSome, if◌then◌else◌}
use Rattle.cell_land.specs.declared.cell_window.Bases.{Bases}
use Rattle.ts_packet.specs.declared.cell.Cell.{Cell}
use Rattle.chain_model.specs.Apply.{StageList}
use Rattle.chain_core.specs.declared.news.News.{News}
use Rattle.chain_core.specs.Machine.{Visit}
use Rattle.stage_run.specs.Seeing.{Seeing}
use Rattle.stage_run.specs.declared.stage_part.StagePart.{StagePart}
use Rattle.stage_run.specs.declared.work.Work.{Work}
use Rattle.stage_run.specs.Works.{PartWork}
use Rattle.stage_run.specs.PartLists.{PartLists}
use Rattle.chain_run.specs.Runs.{RunStart}
use Rattle.atomic_table.specs.Seated.{TableId}
use Rattle.window_ring.specs.declared.stage_seat.StageSeat.{StageSeat}
use Rattle.window_ring.specs.Hands.{Row}
use Rattle.window_ring.specs.Views.{NoneOf}
use Rattle.window_ring.specs.Seats.{seen_of, busy_of, visit_from}
use Rattle.window_ring.specs.Opening.{IsFresh}
use Rattle.chain_threads.specs.declared.stage.Stage.{Stage}
use Rattle.chain_threads.specs.declared.turn.Turn.{Turn}
use Rattle.chain_threads.specs.declared.turn.Turn.TheVariants.{Busy, Ended, Idle, Worked}
use Rattle.chain_run.specs.OneStage.{Doing}
use Rattle.chain_run.specs.Ran.{IsValidRun}
use Rattle.chain_threads.specs.Standing.{key_at, StandsAt, IsOver}

-- the visit that a stage is about to make was made, after those that its seat had seen and some of the other stages
abbrev pub MadeVisit : {S K P : Type 0} → Stage S K P → Stage S K P → Type 0
MadeVisit old new = (between : List Visit) × NoneOf old.seat.stage between
    × (seen_of new.seat ≡ visit_from old.seat old.done old.word ∷ (between ++ seen_of old.seat))
    × (busy_of new.seat ≡ [])

-- another stage had the turn, which the seat remembers: nothing was given or reported, no work was done, and the next visit
-- is to report the same
pub record FoundBusy {S K P : Type 0} (old new : Stage S K P) : Type 0 where
  pub holder : ℕ
  pub another : holder ≢ old.seat.stage
  pub remembers : busy_of new.seat ≡ holder ∷ busy_of old.seat
  pub seen : seen_of new.seat ≡ seen_of old.seat
  pub hand : new.seat.hand ≡ old.seat.hand
  pub part : new.part ≡ old.part
  pub done : new.done ≡ old.done
  pub word : new.word ≡ old.word

-- the result of a turn whose stage goes on: it waits for news where it has no cell in hand and no end to report
abbrev pub answer_of : Bool → Bool → Turn
answer_of empty ends = if empty && not ends then Idle else Worked

module _ {S K P : Type 0} (see : Seeing S K P) where
  -- a part worked on the first cells of a hand, on one at least where there is one
  pub record HandWorks (old new : StagePart S K P) (hand hand_new : Row) (news : News) (work : Work)
      : Type 0 where
    pub window : List Cell
    pub window_new : List Cell
    pub rest : List Cell
    pub cells : hand.cells ≡ window ++ rest
    pub cells_new : hand_new.cells ≡ window_new ++ rest
    pub same_length : length window_new ≡ length window
    pub at_same : hand_new.at ≡ hand.at
    pub land_same : hand_new.land ≡ hand.land
    pub some : window ≡ [] → hand.cells ≡ []
    pub worked : PartWork see old new hand.at news window window_new work

  module _ (begun : RunStart S K) (base : Bases) (table : TableId) where
    -- the stage goes on
    abbrev pub Stands : Stage S K P → Type 0
    Stands s = StandsAt see begun base table s.seat s.part s.done s.word

    -- the stage has ended
    abbrev pub Ends : Stage S K P → Type 0
    Ends s = IsOver see begun base table s.seat s.part

    -- what a turn leaves, by its result
    abbrev pub Behind : Turn → Stage S K P → Stage S K P → Type 0
    Behind Busy old new = Stands new × FoundBusy old new
    Behind Ended old new = Ends new × MadeVisit old new
    Behind Idle old new = Stands new × MadeVisit old new
        × (new.seat.hand.cells ≡ []) × (new.word.ended ≡ None)
    Behind Worked old new = Stands new × MadeVisit old new
        × ((0 < length new.seat.hand.cells) ⊎ IsSome new.word.ended)

    -- the seat and the part of a stage, of which nothing was done
    pub record IsNewStage (part : StagePart S K P) (seat : StageSeat) : Type 0 where
      pub run : IsValidRun begun
      pub words : 0 < table.words
      pub slots : table.slots ≡ 1
      pub is_stage : seat.stage ≤ suc begun.plan.plugins
      pub fresh : IsFresh (key_at begun base) table seat.stage seat
      pub lists : PartLists
      pub doing : Doing see begun part seat.stage lists [] None 0 0 (λ _. []) (λ (_ : StageList). Unit {0})
