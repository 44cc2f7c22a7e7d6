-- A stage with its seat in a ring: what it stands for between two turns. This project's own rule.
use Rattle.std.specs.Prelude.{◌≡◌, ℕ, suc, ◌+◌, ◌-◌, ◌<◌, ◌≤◌, List, ◌++◌, length, take, drop, IsSome}
use Rattle.cell_land.specs.declared.cell_window.Bases.{Bases}
use Rattle.ts_packet.specs.declared.cell.Cell.{Cell}
use Rattle.chain_model.specs.Apply.{StageList}
use Rattle.chain_core.specs.declared.stage_word.StageWord.{StageWord}
use Rattle.chain_core.specs.Numbers.{written_of}
use Rattle.chain_core.specs.Machine.{Visit, progress_of_stages, Allowed}
use Rattle.chain_core.specs.ChainRun.{state_after}
use Rattle.chain_core.specs.Keeps.{Keeps}
use Rattle.stage_run.specs.Seeing.{Seeing}
use Rattle.stage_run.specs.declared.stage_part.StagePart.{StagePart}
use Rattle.stage_run.specs.PartLists.{PartLists}
use Rattle.chain_run.specs.Runs.{RunStart}
pub use Rattle.chain_run.specs.Ran.{IsValidRun}
pub use Rattle.chain_run.specs.OneStage.{SoFarUpTo, Doing, MayBe}
use Rattle.atomic_table.specs.Seated.{TableId}
use Rattle.window_ring.specs.declared.view.Key.{Key}
use Rattle.window_ring.specs.declared.stage_seat.StageSeat.{StageSeat}
use Rattle.window_ring.specs.Hands.{Row}
use Rattle.window_ring.specs.Visits.{giving}
use Rattle.window_ring.specs.Seats.{seen_of, IsSeat}
use Rattle.window_ring.specs.OneRun.{KeptBy}

-- what never changes of the ring of a run, whose block begins here
abbrev pub key_at : {S K : Type 0} → RunStart S K → Bases → Key
key_at begun base = record { plan = begun.plan; base = base }

module _ {S K P : Type 0} (see : Seeing S K P) (begun : RunStart S K) where
  -- what a stage gave, as far as was seen
  abbrev pub gave_by : List Visit → ℕ → List Cell
  gave_by seen j = ((state_after begun.plan seen).stages j).given

  -- how many cells were written, as far as was seen
  abbrev pub written_by : List Visit → ℕ
  written_by seen = written_of begun.plan (progress_of_stages (state_after begun.plan seen))

  -- between two turns: stage `k` has seen this part of the run, has these cells in its hands, and is about to give the
  -- first `done` of them and to report the word
  pub record Standing (k : ℕ) (seen : List Visit) (hand : Row) (part : StagePart S K P) (done : ℕ)
      (word : StageWord) : Type 0 where
    pub lists : PartLists
    pub done_within : done ≤ length hand.cells
    pub allowed : Allowed begun.plan (state_after begun.plan seen) (giving hand k done word)
    pub doing : Doing see begun part k lists (gave_by seen k ++ take done hand.cells) word.ended (written_by seen)
        ((state_after begun.plan seen).stages k).taken (gave_by seen)
        (SoFarUpTo begun.plan begun.rules seen)
    pub kept : (input : StageList) → MayBe see begun part k lists input → KeptBy begun.plan begun.rules input k seen
    pub keeps : (input : StageList) → MayBe see begun part k lists input
        → Keeps begun.plan begun.rules input (state_after begun.plan seen) (giving hand k done word)
    -- the other cells in its hands are those of the stage before, which it has not worked on
    pub content : (j : ℕ) → k ≡ suc j → drop done hand.cells
        ≡ take (((state_after begun.plan seen).stages k).taken - (length (gave_by seen k) + done))
        (drop (length (gave_by seen k) + done) (gave_by seen j))

  -- it has ended
  pub record Over (k : ℕ) (seen : List Visit) (part : StagePart S K P) : Type 0 where
    pub lists : PartLists
    pub ended : IsSome ((state_after begun.plan seen).stages k).ended
    pub doing : Doing see begun part k lists (gave_by seen k) ((state_after begun.plan seen).stages k).ended
        (written_by seen) ((state_after begun.plan seen).stages k).taken (gave_by seen)
        (SoFarUpTo begun.plan begun.rules seen)
    pub kept : (input : StageList) → MayBe see begun part k lists input → KeptBy begun.plan begun.rules input k seen

  -- the same of a stage with its seat in this ring
  pub record StandsAt (base : Bases) (table : TableId) (seat : StageSeat) (part : StagePart S K P) (done : ℕ)
      (word : StageWord) : Type 0 where
    pub run : IsValidRun begun
    pub words : 0 < table.words
    pub slots : table.slots ≡ 1
    pub is_stage : seat.stage ≤ suc begun.plan.plugins
    pub seat_is : IsSeat (key_at begun base) table seat
    pub standing : Standing seat.stage (seen_of seat) seat.hand part done word

  pub record IsOver (base : Bases) (table : TableId) (seat : StageSeat) (part : StagePart S K P) : Type 0 where
    pub run : IsValidRun begun
    pub is_stage : seat.stage ≤ suc begun.plan.plugins
    pub seat_is : IsSeat (key_at begun base) table seat
    pub over : Over seat.stage (seen_of seat) part
