-- What the input and the output of a chain are before a run and after it. This project's own rule.
use Rattle.std.specs.Prelude.{◌≡◌, ◌≢◌, ℕ, List, Option, Some, IfSome}
use Rattle.ts_outside.specs.Source.{SourceView, unread, read_failed}
use Rattle.ts_outside.specs.Sink.{SinkView}
use Rattle.chain_model.specs.declared.input_end.InputEnd.{InputEnd}
use Rattle.chain_model.specs.declared.input_end.InputEnd.TheVariants.{ReadFault}
use Rattle.chain_model.specs.Apply.{StageList, input_over}
use Rattle.chain_model.specs.InputList.{input_of_bytes, input_of_nulls}
use Rattle.chain_model.specs.InputRead.{IsInSyncSoFar, list_at_fault}
use Rattle.chain_model.specs.Stuffed.{stuffed}
use Rattle.chain_model.specs.Stuffed as model
use Rattle.chain_core.specs.declared.stage_end.StageEnd.{StageEnd}
use Rattle.chain_core.specs.declared.stage_end.StageEnd.TheVariants.{Input, WriteFault}
use Rattle.stage_run.specs.declared.input_part.InputPart.{InputPart}
use Rattle.stage_run.specs.declared.input_part.InputPart.TheVariants.{Stream, Nulls, Generated}
use Rattle.stage_run.specs.declared.output_part.OutputPart.{OutputPart}
use Rattle.stage_run.specs.declared.output_part.OutputPart.TheVariants as out
use Rattle.stage_run.specs.GeneratedInput.{input_of_generated}
use Rattle.stage_run.specs.PartLists.{PartLists}
use Rattle.stage_run.specs.OutputStands.{SinkTook}

-- the list of an input with its stuffing, as far as the bytes of its source are known
abbrev pub IsListOf : {S : Type 0} → (S → SourceView) → InputPart S → model.Stuffing → StageList → Type 0
IsListOf seen (Stream source) stuffing input =
    (bytes : List ℕ) × (input ≡ stuffed stuffing (input_of_bytes bytes))
    × IfSome (seen source).left (λ left. left ≡ bytes)
IsListOf seen (Nulls count) stuffing input = input ≡ stuffed stuffing (input_of_nulls count)
IsListOf seen (Generated generator count) stuffing input =
    input ≡ stuffed stuffing (input_of_generated generator.seed count)

-- a generator has given no packet
abbrev pub IsUnused : {S : Type 0} → InputPart S → Type 0
IsUnused (Generated generator count) = generator.given ≡ 0
IsUnused _ = Unit {0}

-- the source of an input, if it has one, as contracts see it
abbrev pub IsSourceOf : {S : Type 0} → (S → SourceView) → InputPart S → SourceView → Type 0
IsSourceOf seen (Stream source) view = view ≡ seen source
IsSourceOf seen (Nulls count) view = Unit {0}
IsSourceOf seen (Generated generator count) view = Unit {0}

-- the sink of an output, if it has one, as contracts see it
abbrev pub IsSinkOf : {K : Type 0} → (K → SinkView) → OutputPart K → SinkView → Type 0
IsSinkOf seen (out.Stream sink) view = view ≡ seen sink
IsSinkOf seen out.Discard view = Unit {0}

-- an input whose reading failed: it gave the list up to the fault
pub record FailedReading (stuffing : model.Stuffing) (first now : SourceView)
    (lists : PartLists) : Type 0 where
  pub source : read_failed first ≡ unread lists.read now
  pub in_sync : IsInSyncSoFar lists.read
  pub given : lists.given ≡ (list_at_fault stuffing lists.read).cells

-- the source that an input leaves: what was read was read from it, and only where a read fault was reported a call failed
abbrev pub LeavesSource : model.Stuffing → SourceView → SourceView → PartLists → Option StageEnd → Type 0
LeavesSource stuffing first now lists (Some (Input ReadFault)) = FailedReading stuffing first now lists
LeavesSource stuffing first now lists told = first ≡ unread lists.read now

-- the input that a stage returns
abbrev pub LeavesInput : {S : Type 0} → (S → SourceView) → InputPart S → model.Stuffing → PartLists
    → Option StageEnd → Type 0
LeavesInput seen (Stream source) stuffing lists told =
    LeavesSource stuffing lists.source (seen source) lists told
LeavesInput seen (Nulls count) stuffing lists told = told ≢ Some (Input ReadFault)
LeavesInput seen (Generated generator count) stuffing lists told = told ≢ Some (Input ReadFault)

-- the output that a stage returns: its sink took the live cells that were given, and a part of a packet where a
-- write failed
abbrev pub LeavesOutput : {K : Type 0} → (K → SinkView) → OutputPart K → PartLists → Option StageEnd → Type 0
LeavesOutput seen (out.Stream sink) lists told = SinkTook lists.sink (seen sink) lists.given lists.cut told
LeavesOutput seen out.Discard lists told = told ≢ Some WriteFault

-- the list ends by the input's end
abbrev pub EndsByInput : StageList → Type 0
EndsByInput input = (how : InputEnd) × (input.ended ≡ Some (input_over how))

-- some list is one of these, and each of these ends by the input's end
pub record SomeList (Gives : StageList → Type 0) : Type 0 where
  pub list : StageList
  pub gives : Gives list
  pub each_ends : (input : StageList) → Gives input → EndsByInput input
