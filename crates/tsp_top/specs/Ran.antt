-- A chain that ran between its two opened ends. This project's own rule.
use Rattle.std.specs.Prelude.{◌≡◌, ◌≤◌, ℕ, List, map, Bool, true, ◌⊎◌, ◌||◌, Option, Result, IfOk, OnErr}
use Rattle.std.specs.declared.alloc.AllocError.{AllocError}
use Rattle.std.specs.Bool.{OnTrue}
use Rattle.ts_packet.specs.declared.cell.Cell.{Cell}
use Rattle.ts_outside.specs.Source.{SourceView}
use Rattle.ts_outside.specs.Sink.{SinkView}
use Rattle.ts_outside.specs.Desk.{DeskView}
use Rattle.chain_args.specs.declared.plan_type.Plan.{Plan}
use Rattle.chain_core.specs.declared.closed.Closed.{Closed}
use Rattle.chain_core.specs.declared.core_plan.CorePlan.{CorePlan}
use Rattle.chain_model.specs.PluginRule.{PluginRule}
use Rattle.chain_model.specs.Reports.{rules_of}
use Rattle.plugin_trait.specs.declared.heard.Heard.{Heard}
use Rattle.plugin_trait.specs.HeardStands.{HeardStands}
use Rattle.stage_run.specs.declared.input_part.InputPart.{InputPart}
use Rattle.stage_run.specs.declared.output_part.OutputPart.{OutputPart}
use Rattle.stage_run.specs.declared.stuffing.Stuffing.{Stuffing}
use Rattle.stage_run.specs.InputStands as stage
use Rattle.stage_run.specs.Parts.{IsUnused}
use Rattle.stage_run.specs.Seeing.{Seeing}
use Rattle.chain_run.specs.Fresh.{AreFresh}
use Rattle.chain_run.specs.RunOf.{RunBy, NeverBegan}
use Rattle.chain_model.specs.Apply.{StageList}
use Rattle.chain_model.specs.PureRun.{Chain}
use Rattle.plugin_settings.specs.Items.{preallocated_of_item}
use Rattle.packet_forms.specs.declared.forms.Form.{Form}
use Rattle.search_source.specs.declared.gap.Gap.{Gap}
use Rattle.search_source.specs.declared.file_source.KeptGaps.{KeptGaps}
use Rattle.tsp_top.specs.ByPlugin.{by_plugin}
use Rattle.tsp_top.specs.PlannedChain.{stuffing_of, named_rules, users_of}
use Rattle.tsp_top.specs.PlannedTables.{AreTables, tables_asked}
use Rattle.tsp_top.specs.PlannedCore.{IsPlannedCore}
use Rattle.tsp_top.specs.Openings.{asked_input, asked_output, OpensInput, OpensOutput, IsThrough, input_closed_as, output_closed_as, WasOpened}
use Rattle.tsp_top.specs.Faults.{faults_from}
use Rattle.tsp_top.specs.InputRounds.{IsLeftOut, Knows, ToldGaps}
use Rattle.tsp_top.specs.LeftOut.{LeftOut, input_faulty}
use Rattle.tsp_top.specs.Printed.{reported_as, told_lines}
use Rattle.tsp_top.specs.Reported.{ReportsAsked}
use Rattle.tsp_top.specs.declared.status.Status.{Status}
use Rattle.tsp_top.specs.declared.status.Status.TheVariants.{NoMemory}

-- the desk after both ends were closed; `inner` is what is seen of the file's own source after that of an input's packets,
-- here and below
abbrev pub closed_desk : {S K : Type 0} → (S → SourceView) → (K → SinkView)
    → DeskView → InputPart S → OutputPart K → Bool → DeskView
closed_desk inner out_seen desk input output failed =
    output_closed_as out_seen (input_closed_as inner desk input) output failed

-- a chain that is ready to run: its stuffing, its numbers and its plugins are the plan's, with these tables, and no
-- plugin met a cell or has lines
pub record IsReady {P : Type 0}
    (rule : P → PluginRule) (stands : P → List Cell → ℕ → Type 0) (preallocated : P → Option ℕ)
    (plan : Plan) (tables : List (List (List ℕ))) (stuffing : Stuffing) (numbers : CorePlan) (plugins : List (Heard P)) : Type 0 where
  pub stuffing_is : stage.stuffing_of stuffing ≡ stuffing_of plan.general
  pub every : 1 ≤ stuffing.every
  pub numbers_are : IsPlannedCore plan numbers
  pub rules : map (by_plugin rule) plugins ≡ rules_of (named_rules plan.plugins tables)
  -- each took its room for as many positions as the buffer has, where its settings say that it does
  pub rooms : map (by_plugin preallocated) plugins ≡ map (λ item. preallocated_of_item item numbers.buffer) plan.plugins
  pub fresh : AreFresh (HeardStands rule stands) plugins

-- a call whose chain is ready and whose two ends were opened, the input first
pub record IsOpened {S K P : Type 0} (see : Seeing S K P) (inner : S → SourceView)
    (plan : Plan) (tables : List (List (List ℕ))) (numbers : CorePlan) (old made : DeskView)
    (from : InputPart S) (stuffing : Stuffing) (plugins : List (Heard P)) (to : OutputPart K) : Type 0 where
  pub ready : IsReady see.rule see.stands see.preallocated plan tables stuffing numbers plugins
  pub asked : made ≡ asked_output (asked_input old plan.input) plan.output
  pub input : OpensInput see.source inner old plan.input from
  pub unused : IsUnused from
  pub output : OpensOutput see.sink (asked_input old plan.input) plan.output to

-- the same of a call whose tables were read before
abbrev pub OpensPlan : {S K P : Type 0} → Seeing S K P → (S → SourceView) → Plan → CorePlan → DeskView → DeskView
    → InputPart S → Stuffing → List (Heard P) → OutputPart K → Type 0
OpensPlan see inner plan numbers old made from stuffing plugins to =
    (tables : List (List (List ℕ))) × AreTables old plan.plugins tables
    × IsOpened see inner plan tables numbers (tables_asked old plan) made from stuffing plugins to

-- what every run ensures, whoever serves the stages: it was closed, or there was no memory for it; `stands` says what each plugin
-- that came back stands for, here and below
pub record EndsRun {S K P : Type 0} (see : Seeing S K P) (stands : Heard P → List Cell → ℕ → Type 0) (stuffing : Stuffing) (numbers : CorePlan)
    (from made_from : InputPart S) (plugins made : List (Heard P)) (to made_to : OutputPart K)
    (closed : Result Closed AllocError) : Type 0 where
  pub run : IfOk closed (λ closed. RunBy see stands from made_from stuffing plugins made to made_to numbers closed)
  pub never_began : OnErr closed (NeverBegan from made_from plugins made to made_to)

-- the chain of a plan over this list of its input
abbrev pub chain_over : Plan → List (List (List ℕ)) → StageList → Chain
chain_over plan tables input = record {
  input = input;
  plugins = named_rules plan.plugins tables;
  users = users_of plan;
}

-- a run that was closed and reported, or closed only, where there was no memory for its report
pub record RanClosed {S K P : Type 0} (see : Seeing S K P) (stands : Heard P → List Cell → ℕ → Type 0) (inner : S → SourceView)
    (plan : Plan) (tables : List (List (List ℕ))) (stuffing : Stuffing) (numbers : CorePlan) (old new : DeskView)
    (from made_from : InputPart S) (kept : Option KeptGaps) (plugins : List (Heard P)) (to made_to : OutputPart K)
    (failed : Bool) (status : Status) (closed : Closed) : Type 0 where
  pub made : List (Heard P)
  pub run : RunBy see stands from made_from stuffing plugins made to made_to numbers closed
  -- the gaps of the input that were told before a position while it ran, and their form
  pub form : Form
  pub gaps : List Gap
  pub at : ℕ
  pub told : plan.general.live ≡ true → ToldGaps see.source (stuffing_of plan.general) from at form gaps
  pub reported : (left_out : Option LeftOut) → IsLeftOut plan.general.live (stuffing_of plan.general) form gaps at kept closed.cause left_out
      → ReportsAsked plan.general (reported_as plan.general left_out (chain_over plan tables run.list) closed.cut closed.cause)
      (told_lines plan.general left_out (chain_over plan tables run.list) closed.cut)
      (input_faulty (stuffing_of plan.general) left_out closed.cut closed.cause
      || faults_from (rules_of (named_rules plan.plugins tables)) run.list closed.cut 0 (named_rules plan.plugins tables))
      (Knows plan.general.live (stuffing_of plan.general) kept closed.cut closed.cause) closed.cause failed
      (closed_desk inner see.sink old made_from made_to failed) new status

-- there was no memory for the run: the ends were closed as they were opened
pub record NotRun {S K P : Type 0} (see : Seeing S K P) (inner : S → SourceView) (old new : DeskView)
    (from made_from : InputPart S) (to made_to : OutputPart K)
    (failed : Bool) (status : Status) : Type 0 where
  pub status_is : status ≡ NoMemory
  pub input_same : made_from ≡ from
  pub output_same : made_to ≡ to
  pub desk : new ≡ closed_desk inner see.sink old made_from made_to failed

-- one of the two
abbrev pub RanEnds : {S K P : Type 0} → Seeing S K P → (Heard P → List Cell → ℕ → Type 0) → (S → SourceView) → Plan → List (List (List ℕ)) → Stuffing → CorePlan → DeskView
    → DeskView
    → InputPart S → InputPart S → Option KeptGaps → List (Heard P) → OutputPart K → OutputPart K → Bool → Status → Type 0
RanEnds see stands inner plan tables stuffing numbers old new from made_from kept plugins to made_to failed status =
    ((closed : Closed)
    × RanClosed see stands inner plan tables stuffing numbers old new from made_from kept plugins to made_to failed status closed)
    ⊎ NotRun see inner old new from made_from to made_to failed status

-- the chain ran, both ends were closed, and the run was reported; or there was no memory for the run
pub record RanOpened {S K P : Type 0} (see : Seeing S K P) (stands : Heard P → List Cell → ℕ → Type 0) (inner : S → SourceView)
    (plan : Plan) (tables : List (List (List ℕ))) (stuffing : Stuffing) (numbers : CorePlan) (old new : DeskView)
    (from : InputPart S) (plugins : List (Heard P)) (to : OutputPart K) (status : Status) : Type 0 where
  pub made_from : InputPart S
  pub made_to : OutputPart K
  -- whether the closing of the output failed
  pub failed : Bool
  pub failed_opened : OnTrue failed (WasOpened made_to)
  -- the gaps that were kept of the input, where packets were found again
  pub kept : Option KeptGaps
  -- what is left of the input's packets is that of its file
  pub through : IsThrough see.source inner made_from kept
  pub ends : RanEnds see stands inner plan tables stuffing numbers old new from made_from kept plugins to made_to failed status
