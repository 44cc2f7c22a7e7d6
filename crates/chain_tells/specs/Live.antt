-- A run in one thread that tells its lines while it goes, and who hears them. This project's own rule.
use Rattle.std.specs.Prelude.{◌≡◌, ◌≤◌, ◌<◌, ℕ, suc, List, [], ◌∷◌, ◌++◌, length, map, Bool, true}
use Rattle.ts_packet.specs.declared.cell.Cell.{Cell}
use Rattle.chain_model.specs.Reports.{NamedRule}
use Rattle.chain_core.specs.Stages.{stages_of}
use Rattle.chain_core.specs.declared.closed.Closed.{Closed}
use Rattle.chain_core.specs.declared.core_plan.CorePlan.{CorePlan}
use Rattle.chain_core.specs.CoreNumbers.{CoreNumbers, progress_of_core}
use Rattle.plugin_trait.specs.declared.heard.Heard.{Heard}
use Rattle.stage_run.specs.Seeing.{Seeing}
use Rattle.stage_run.specs.declared.input_part.InputPart.{InputPart}
use Rattle.stage_run.specs.declared.output_part.OutputPart.{OutputPart}
use Rattle.stage_run.specs.declared.stage_part.StagePart.{StagePart}
use Rattle.stage_run.specs.declared.stuffing.Stuffing.{Stuffing}
use Rattle.chain_live.specs.LiveReports.{lines_below}
use Rattle.chain_rounds.specs.Told.{shown}
use Rattle.chain_rounds.specs.declared.told_line.ToldLine.{ToldLine}
use Rattle.chain_run.specs.Runs.{RunStart}
use Rattle.chain_run.specs.RunTold.{RunTold}
use Rattle.chain_run.specs.declared.serial_chain.SerialChain.{SerialChain}
use Rattle.chain_tells.specs.Telling.{Tells}

-- the lines of rows, of which the last one comes first
abbrev pub lines_of_rows : List (List ToldLine) → List ToldLine
lines_of_rows [] = []
lines_of_rows (row ∷ earlier) = lines_of_rows earlier ++ row

-- the listener heard these rows one after another, and nothing else: the last one comes first, and none is empty
abbrev pub HeardRows : {L : Type 0} → (L → L → List ToldLine → Type 0) → L → L → List (List ToldLine) → Type 0
HeardRows hears first now [] = now ≡ first
HeardRows {L = L} hears first now (row ∷ earlier) =
    (before : L) × HeardRows hears first before earlier × (0 < length row) × hears before now row

-- what a chain in one thread told so far, and the listener heard
pub record HasTold {S K P L : Type 0} (see : Seeing S K P) (begun : RunStart S K) (plugins : List NamedRule) (name_of : ℕ → List ℕ)
    (hears : L → L → List ToldLine → Type 0) (first now : L) (core : CoreNumbers) (parts : List (StagePart S K P)) (cells : List Cell) : Type 0 where
  pub w : ℕ
  pub rows : List (List ToldLine)
  pub heard : HeardRows hears first now rows
  pub tells : Tells see begun plugins name_of (λ _. w) w (lines_of_rows rows) core parts cells

-- the same, and all that the output has given was told, where nothing is late
pub record ToldNow {S K P L : Type 0} (see : Seeing S K P) (begun : RunStart S K) (plugins : List NamedRule) (name_of : ℕ → List ℕ)
    (hears : L → L → List ToldLine → Type 0) (first now : L) (all : Bool)
    (core : CoreNumbers) (parts : List (StagePart S K P)) (cells : List Cell) : Type 0 where
  pub has : HasTold see begun plugins name_of hears first now core parts cells
  pub whole : all ≡ true → has.w ≡ (progress_of_core core (suc begun.plan.plugins)).given

-- a run that was closed, and what was told of it: the lines of the run without faults at the positions below `w`, which the
-- listener heard as these rows; the plugins came back with the lines from `w` on
pub record LiveRun {S K P L : Type 0} (see : Seeing S K P) (plugins : List NamedRule) (name_of : ℕ → List ℕ)
    (hears : L → L → List ToldLine → Type 0) (first now : L) (all : Bool) (from made_from : InputPart S) (stuffing : Stuffing)
    (met_none made : List (Heard P)) (to made_to : OutputPart K) (plan : CorePlan) (closed : Closed) : Type 0 where
  pub w : ℕ
  pub run : RunTold see (λ _. w) from made_from stuffing met_none made to made_to plan closed
  pub rows : List (List ToldLine)
  pub heard : HeardRows hears first now rows
  pub lines : map (shown name_of) (lines_of_rows rows) ≡ lines_below (record {
    input = run.list;
    plugins = plugins;
    users = stages_of plan.users;
  }) w
  pub within : w ≤ closed.cut
  -- all lines of the run were told, but where memory ran out for the last ones
  pub whole : all ≡ true → w ≡ closed.cut

-- ---- the same of a chain as a whole

module _ {S K P L : Type 0} (see : Seeing S K P) (hears : L → L → List ToldLine → Type 0) where
  -- whatever the chain told before, and from whenever on the listener is looked at, it told more, and the listener heard it
  abbrev pub TellsMore : L → L → SerialChain S K P → SerialChain S K P → Type 0
  TellsMore was now old new = (begun : RunStart S K) (plugins : List NamedRule) (name_of : ℕ → List ℕ) (first : L)
      → HasTold see begun plugins name_of hears first was old.core old.parts.items old.cells.items
      → HasTold see begun plugins name_of hears first now new.core new.parts.items new.cells.items

  -- the same, and all that the output has given was told, where nothing is late
  abbrev pub TellsAll : L → L → Bool → SerialChain S K P → SerialChain S K P → Type 0
  TellsAll was now all old new = (begun : RunStart S K) (plugins : List NamedRule) (name_of : ℕ → List ℕ) (first : L)
      → HasTold see begun plugins name_of hears first was old.core old.parts.items old.cells.items
      → ToldNow see begun plugins name_of hears first now all new.core new.parts.items new.cells.items
