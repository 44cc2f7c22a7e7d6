-- What an input with its stuffing stands for. This project's own rule.
use Rattle.std.specs.Prelude.{◌≡◌, ℕ, ◌+◌, ◌*◌, ◌≤◌, List, [], ◌++◌, length, Option, None, Some, IfSome}
use Rattle.ts_packet.specs.declared.numbers.TheConstants.{PACKET_SIZE}
use Rattle.chain_model.specs.declared.positions.TheConstants.{POSITION_LIMIT}
use Rattle.ts_packet.specs.declared.cell.Cell.{Cell}
use Rattle.ts_outside.specs.Source.{SourceView}
use Rattle.chain_model.specs.declared.input_end.InputEnd.{InputEnd}
use Rattle.chain_model.specs.declared.input_end.InputEnd.TheVariants.{End, TooLong}
use Rattle.chain_model.specs.Apply.{StageList}
use Rattle.chain_model.specs.InputList.{input_of_bytes, input_of_nulls}
use Rattle.chain_model.specs.Stuffed.{null_cells, stuffed_after, stop_nulls, stuffed}
use Rattle.chain_model.specs.Stuffed as model
use Rattle.chain_core.specs.declared.stage_end.StageEnd.{StageEnd}
use Rattle.chain_core.specs.declared.stage_end.StageEnd.TheVariants.{Input, Followed}
use Rattle.stage_run.specs.declared.stuffing.Stuffing.{Stuffing}
use Rattle.stage_run.specs.declared.packet_feed.PacketFeed.{PacketFeed}
use Rattle.stage_run.specs.declared.packet_feed.PacketFeed.TheVariants as feed
use Rattle.stage_run.specs.declared.input_stage.InputStage.{InputStage}
use Rattle.stage_run.specs.PartLists.{PartLists}
use Rattle.stage_run.specs.Feeds.{FeedStands}
use Rattle.stage_run.specs.GeneratedInput.{input_of_generated}

-- the stuffing, in the words of the model
abbrev pub stuffing_of : Stuffing → model.Stuffing
stuffing_of stuffing =
    record { start = stuffing.start; stop = stuffing.stop; null = stuffing.null; every = stuffing.every }

-- the stuffed list of these packets, with the nulls after the end once it is known
abbrev pub stuffed_so_far : model.Stuffing → List (List ℕ) → Option InputEnd → List Cell
stuffed_so_far stuffing rows None = null_cells stuffing.start ++ stuffed_after stuffing 0 rows
stuffed_so_far stuffing rows (Some how) =
    null_cells stuffing.start ++ (stuffed_after stuffing 0 rows ++ stop_nulls stuffing how)

-- the input can go on: its end is not known, or it is a plain one
abbrev pub IsOpen : Option InputEnd → Type 0
IsOpen None = Unit {0}
IsOpen (Some (End left)) = Unit {0}
IsOpen (Some how) = ⊥

-- before it reports its end an input can go on, and it has read one packet more, at most, than the cells that it gave have
-- room for
pub record IsGoingOn (ended : Option InputEnd) (lists : PartLists) : Type 0 where
  pub can : IsOpen ended
  pub reads : length lists.read ≤ PACKET_SIZE * (length lists.given + 1)

-- what is reported of an input's end fits what is known of it: nothing is left to give, or no position
abbrev pub FitsTold : Option InputEnd → ℕ → PartLists → Option StageEnd → Type 0
FitsTold ended nulls lists None = IsGoingOn ended lists
FitsTold ended nulls lists (Some Followed) = IsGoingOn ended lists
FitsTold ended nulls lists (Some (Input TooLong)) = (length lists.given ≡ POSITION_LIMIT) × IsOpen ended
FitsTold ended nulls lists (Some (Input how)) = (ended ≡ Some how) × (nulls ≡ 0)
FitsTold ended nulls lists (Some _) = ⊥

-- the input read and gave these lists
pub record InputHolds {S : Type 0} (seen : S → SourceView) (stage : InputStage S)
    (lists : PartLists) : Type 0 where
  pub rows : List (List ℕ)
  pub feed : FeedStands seen stage.feed lists.source lists.read rows stage.ended
  -- what was given, with the null packets that are due, is the stuffed list of the packets that were put
  pub cells : lists.given ++ null_cells stage.nulls
      ≡ stuffed_so_far (stuffing_of stage.stuffing) rows stage.ended
  -- each packet that was put was given
  pub put : length rows ≤ length lists.given
  pub every : 1 ≤ stage.stuffing.every

-- the input read and gave these lists, and reported this end
pub record InputStands {S : Type 0} (seen : S → SourceView) (stage : InputStage S) (lists : PartLists)
    (told : Option StageEnd) : Type 0 where
  pub holds : InputHolds seen stage lists
  pub fits : FitsTold stage.ended stage.nulls lists told
  -- positions are below the limit
  pub within : length lists.given ≤ POSITION_LIMIT

-- the bytes that may follow where the input is known to be at its end: none
abbrev pub MayFollowEnd : Option InputEnd → List ℕ → Type 0
MayFollowEnd (Some (End left)) more = more ≡ []
MayFollowEnd _ more = Unit {0}

-- the stuffed list of a feed's packets may be this one, as far as its source is known and as far as it was read
abbrev pub FeedGives : {S : Type 0} → (S → SourceView) → PacketFeed S → model.Stuffing → List ℕ
    → Option InputEnd → StageList → Type 0
FeedGives seen (feed.Stream stream) stuffing read ended input =
    (more : List ℕ) × (input ≡ stuffed stuffing (input_of_bytes (read ++ more)))
    × IfSome (seen stream.source).left (λ left. left ≡ more) × MayFollowEnd ended more
FeedGives seen (feed.Nulls nulls) stuffing read ended input =
    input ≡ stuffed stuffing (input_of_nulls nulls.all)
FeedGives seen (feed.Generated generated) stuffing read ended input =
    input ≡ stuffed stuffing (input_of_generated generated.generator.seed generated.all)

-- the list of the input may be this one
abbrev pub MayGive : {S : Type 0} → (S → SourceView) → InputStage S → PartLists → StageList → Type 0
MayGive seen stage lists input =
    FeedGives seen stage.feed (stuffing_of stage.stuffing) lists.read stage.ended input
