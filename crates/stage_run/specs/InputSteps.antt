-- What the steps of an input do to what it stands for. This project's own rule.
use Rattle.std.specs.Prelude.{◌≡◌, ◌⊎◌, ℕ, ◌+◌, ◌*◌, ◌<◌, ◌≤◌, ◌%◌, ◌==◌, if◌then◌else◌, List, [], ◌∷◌, ◌++◌, length, Option, None, Some}
use Rattle.ts_packet.specs.declared.numbers.TheConstants.{PACKET_SIZE}
use Rattle.ts_packet.specs.declared.cell.Cell.{Cell}
use Rattle.ts_outside.specs.Source.{SourceView}
use Rattle.chain_model.specs.declared.input_end.InputEnd.{InputEnd}
use Rattle.chain_model.specs.declared.input_end.InputEnd.TheVariants.{End, TooLong}
use Rattle.chain_model.specs.Apply.{StageList}
use Rattle.chain_model.specs.Stuffed as model
use Rattle.stage_run.specs.declared.input_stage.InputStage.{InputStage}
use Rattle.stage_run.specs.PartLists.{PartLists}
use Rattle.stage_run.specs.Feeds.{FeedHasRoom, IsReady, SameFeed, WantsMore}
use Rattle.stage_run.specs.InputStands.{InputHolds, MayGive}

-- more was read and given
abbrev pub with_more : PartLists → List ℕ → List Cell → PartLists
with_more lists bytes cells = record {
  met = lists.met;
  given = lists.given ++ cells;
  read = lists.read ++ bytes;
  cut = lists.cut;
  source = lists.source;
  sink = lists.sink;
  mark = lists.mark;
  from = lists.from;
}

-- how many null packets come after an end
abbrev pub stop_count : Option InputEnd → ℕ → ℕ
stop_count (Some (End left)) stop = stop
stop_count _ stop = 0

-- how many null packets come after the packet of this number, counted from 1
abbrev pub null_count : model.Stuffing → ℕ → ℕ
null_count stuffing packet = if packet % stuffing.every == 0 then stuffing.null else 0

-- the numbers of an input are in their ranges
pub record InputFits {S : Type 0} (stage : InputStage S) : Type 0 where
  pub room : FeedHasRoom stage.feed
  pub every : 1 ≤ stage.stuffing.every

-- the input gave these cells more, and read no more than `wanted` cells need
pub record InputGoes {S : Type 0} (seen : S → SourceView) (old new : InputStage S) (lists : PartLists)
    (wanted : ℕ) (cells : List Cell) : Type 0 where
  pub same : SameFeed old.feed new.feed
  pub bytes : List ℕ
  pub holds : InputHolds seen new (with_more lists bytes cells)
  pub gives : (input : StageList) → MayGive seen new (with_more lists bytes cells) input
      → MayGive seen old lists input
  pub reads : (most : ℕ) → length lists.read ≤ PACKET_SIZE * most → length lists.given + wanted ≤ most
      → length (lists.read ++ bytes) ≤ PACKET_SIZE * most

-- the list is over, and this is how
pub record IsOver {S : Type 0} (stage : InputStage S) (how : InputEnd) : Type 0 where
  pub ended : stage.ended ≡ Some how
  pub nulls : stage.nulls ≡ 0

-- the cell that was put, where the list was not over
abbrev pub cell_put : Option InputEnd → Cell → List Cell
cell_put None cell = cell ∷ []
cell_put (Some how) cell = []

-- the next cell needs a read: no null packets are due, no end is known, and a packet more has to be read
abbrev pub WantsRead : {S : Type 0} → InputStage S → Type 0
WantsRead stage = (stage.nulls ≡ 0) × (stage.ended ≡ None) × WantsMore stage.feed

-- all cells of the window were put, or some were and the next one needs a read
abbrev pub FillsWindow : {S : Type 0} → InputStage S → ℕ → ℕ → Type 0
FillsWindow new len done = (done ≡ len) ⊎ ((0 < done) × WantsRead new)

-- the window is filled, or the list is over
abbrev pub IsFilled : {S : Type 0} → InputStage S → ℕ → ℕ → Option InputEnd → Type 0
IsFilled new len done None = FillsWindow new len done
IsFilled new len done (Some how) = IsOver new how

-- one more cell would come, or the list is over
abbrev pub EndsAtLimit : {S : Type 0} → InputStage S → InputEnd → Type 0
EndsAtLimit new TooLong =
    (0 < new.nulls) ⊎ (((new.ended ≡ None) × IsReady new.feed) ⊎ (new.ended ≡ Some TooLong))
EndsAtLimit new how = IsOver new how
