-- The result of a run of a chain: where it was cut and why, what was read, what was written, and what the plugins met.
-- This project's own rule.
use Rattle.std.specs.Prelude.{◌≡◌, ◌≢◌, ◌⊎◌, ℕ, suc, ◌+◌, ◌≤◌, List, length, map, take}
use Rattle.ts_packet.specs.declared.cell.Cell.{Cell}
use Rattle.ts_outside.specs.Source.{SourceView}
use Rattle.ts_outside.specs.Sink.{SinkView, took}
use Rattle.chain_model.specs.declared.input_end.InputEnd.TheVariants.{ReadFault}
use Rattle.chain_model.specs.declared.cause.Cause.{Cause}
use Rattle.chain_model.specs.declared.cause.Cause.TheVariants.{Input, WriteFault, NoMemory}
use Rattle.chain_model.specs.PluginRule.{PluginRule}
use Rattle.chain_model.specs.Apply.{StageList}
use Rattle.chain_model.specs.StageLists.{end_list}
use Rattle.chain_model.specs.Stuffed as model
use Rattle.chain_model.specs.Cut.{IsValidFault, IsPureClose}
use Rattle.chain_model.specs.Written.{written}
use Rattle.chain_core.specs.declared.closed.Closed.{Closed}
use Rattle.chain_core.specs.declared.core_plan.CorePlan.{CorePlan}
use Rattle.chain_core.specs.Stages.{stages_of}
use Rattle.plugin_trait.specs.declared.heard.Heard.{Heard}
use Rattle.stage_run.specs.Seeing.{Seeing, heard_rule, heard_stands, heard_preallocated}
use Rattle.stage_run.specs.declared.input_part.InputPart.{InputPart}
use Rattle.stage_run.specs.declared.input_part.InputPart.TheVariants.{Stream, Nulls, Generated}
use Rattle.stage_run.specs.declared.output_part.OutputPart.{OutputPart}
use Rattle.stage_run.specs.declared.output_part.OutputPart.TheVariants as out
use Rattle.stage_run.specs.declared.stuffing.Stuffing.{Stuffing}
use Rattle.stage_run.specs.InputStands.{stuffing_of}
use Rattle.stage_run.specs.Writing.{CutsAt}
use Rattle.stage_run.specs.Parts.{IsListOf}
use Rattle.chain_run.specs.Met.{AllMetFirst}
use Rattle.chain_run.specs.SourceRead.{ReadsSource}
use Rattle.chain_run.specs.Rooms.{WantsMemory}

-- the input that a run leaves
abbrev pub LeftInput : {S : Type 0} → (S → SourceView) → model.Stuffing → ℕ → InputPart S → InputPart S → ℕ
    → Cause → Type 0
LeftInput seen stuffing buffer (Stream old) (Stream new) cut cause =
    ReadsSource stuffing buffer (seen old) (seen new) cut cause
LeftInput seen stuffing buffer (Nulls old) (Nulls new) cut cause = cause ≢ Input ReadFault
LeftInput seen stuffing buffer (Generated old packets) (Generated new same) cut cause = cause ≢ Input ReadFault
LeftInput seen stuffing buffer _ _ cut cause = ⊥

-- the sink took the live packets of the cells before the cut; where the run ended by a failed write, and that is the last
-- call, a part of the packet after them too
abbrev pub TakesTo : SinkView → SinkView → List Cell → ℕ → Cause → Type 0
TakesTo old new cells cut WriteFault = CutsAt old new cells cut
TakesTo old new cells cut _ = new ≡ took old (written (take cut cells))

-- the output that a run leaves; what goes nowhere is always written
abbrev pub LeftOutput : {K : Type 0} → (K → SinkView) → OutputPart K → OutputPart K → List Cell → ℕ → Cause
    → Type 0
LeftOutput seen (out.Stream old) (out.Stream new) cells cut cause =
    TakesTo (seen old) (seen new) cells cut cause
LeftOutput seen out.Discard out.Discard cells cut cause = cause ≢ WriteFault
LeftOutput seen _ _ cells cut cause = ⊥

-- cut and cause are those of the run without faults, or a fault ended the chain where it may
abbrev pub ClosesRight : List PluginRule → StageList → List ℕ → Closed → Type 0
ClosesRight rules list users closed =
    IsPureClose rules list users closed.cut closed.cause
    ⊎ IsValidFault rules list users closed.cut closed.cause

-- how many cells each stage of a run gave, by its number: no stage more than the one before it, the input no more than the
-- buffer beyond the cut, and the output those before the cut
pub record Gave (plugins buffer cut : ℕ) (gave : ℕ → ℕ) : Type 0 where
  pub input : gave 0 ≤ cut + buffer
  pub falls : (k : ℕ) → k ≤ plugins → gave (suc k) ≤ gave k
  pub output : gave (suc plugins) ≡ cut

-- a run that was closed; `stands` says what each plugin that came back stands for
pub record RunBy {S K P : Type 0} (see : Seeing S K P) (stands : Heard P → List Cell → ℕ → Type 0)
    (from made_from : InputPart S) (stuffing : Stuffing) (plugins made : List (Heard P)) (to made_to : OutputPart K)
    (plan : CorePlan) (closed : Closed) : Type 0 where
  -- the list of the input with its stuffing: that of the bytes of its source, as far as they are known
  pub list : StageList
  pub is_list : IsListOf see.source from (stuffing_of stuffing) list
  pub closes : ClosesRight (map (heard_rule see) plugins) list (stages_of plan.users) closed
  pub input : LeftInput see.source (stuffing_of stuffing) plan.buffer from made_from closed.cut closed.cause
  pub output : LeftOutput see.sink to made_to (end_list (map (heard_rule see) plugins) list).cells
      closed.cut closed.cause
  -- each stage gave the first cells of its list, and each plugin met as many of the stage before it as its own gave
  pub gave : ℕ → ℕ
  pub gave_to : Gave plan.plugins plan.buffer closed.cut gave
  pub input_gave : gave 0 ≤ length list.cells
  pub met : AllMetFirst stands (map (heard_rule see) plugins) list gave closed.cut 0 made
  -- only a plugin ran out of memory, and none that made room for as many positions as the buffer has
  pub memory : (k : ℕ) → closed.cause ≡ NoMemory k → WantsMemory (map (heard_preallocated see) plugins) plan.buffer k
  pub rules : map (heard_rule see) made ≡ map (heard_rule see) plugins

-- a run that was closed: the plugins came back with all lines of the cells below their marks
abbrev pub RunOf : {S K P : Type 0} → Seeing S K P → InputPart S → InputPart S → Stuffing → List (Heard P) → List (Heard P)
    → OutputPart K → OutputPart K → CorePlan → Closed → Type 0
RunOf see = RunBy see (heard_stands see)

-- where there was no memory for a run, nothing was read, met or written
pub record NeverBegan {S K P : Type 0} (from made_from : InputPart S) (plugins made : List (Heard P))
    (to made_to : OutputPart K) : Type 0 where
  pub input : made_from ≡ from
  pub plugins_same : made ≡ plugins
  pub output : made_to ≡ to
