-- The stream theorem of a call whose two ends were opened.
use Rattle.std.proofs.Common.{◌≡◌, ◌≢◌, ◌⊎◌, ℕ, zero, suc, ◌-◌, ◌<◌, ◌≤◌, List, [], ◌∷◌, ◌++◌, length, map, take, Bool, true, false, ◌||◌, Option, None, Some, IfSome, refl, ap, sym, ◌∙◌, subst, inl, inr, arith}
use Rattle.std.specs.Bool.{OnTrue}
use Rattle.std.specs.Prelude.{slice_index_or}
use Rattle.std.proofs.lemmas.List.{take_all, length-map}
use Rattle.ts_packet.specs.declared.cell.Cell.{Cell}
use Rattle.chain_model.specs.Prefix.{IsPrefix}
use Rattle.chain_model.specs.declared.cause.Cause.{Cause}
use Rattle.chain_model.specs.declared.cause.Cause.TheVariants as cause
use Rattle.chain_model.specs.declared.cause.Cause.TheVariants.{WriteFault}
use Rattle.chain_model.specs.PluginRule.{PluginRule}
use Rattle.chain_model.specs.Apply.{StageList}
use Rattle.chain_model.specs.StageLists.{end_list}
use Rattle.chain_model.specs.Written.{written}
use Rattle.chain_model.specs.Cut.{cut_of, IsValidFault, IsPureClose}
use Rattle.chain_model.specs.PureRun.{chain_rules}
use Rattle.chain_model.specs.Reports.{rules_of}
use Rattle.chain_model.specs.Stuffed.{stuffed}
use Rattle.chain_model.specs.Stuffed as model
use Rattle.chain_core.specs.Stages.{stages_of}
use Rattle.chain_core.specs.declared.closed.Closed.{Closed}
use Rattle.chain_core.specs.declared.core_plan.CorePlan.{CorePlan}
use Rattle.plugin_settings.specs.declared.plugin_item.PluginItem.{PluginItem}
use Rattle.chain_args.specs.declared.plan_type.Plan.{Plan}
use Rattle.plugin_trait.specs.Steps.{IsPreallocatedFor}
use Rattle.plugin_trait.specs.declared.heard.Heard.{Heard}
use Rattle.stage_run.specs.Seeing.{Seeing, heard_rule, heard_preallocated}
use Rattle.stage_run.specs.declared.input_part.InputPart.{InputPart}
use Rattle.stage_run.specs.declared.output_part.OutputPart.{OutputPart}
use Rattle.stage_run.specs.Parts.{IsListOf}
use Rattle.stage_run.specs.InputStands as stage
use Rattle.stage_run.specs.declared.stuffing.Stuffing.{Stuffing}
use Rattle.search_source.specs.declared.file_source.KeptGaps.{KeptGaps}
use Rattle.ts_outside.specs.Count.{HasCause}
use Rattle.ts_outside.specs.declared.requests.Asked.{Asked}
use Rattle.ts_outside.specs.declared.requests.Purpose.TheVariants as Purpose
use Rattle.ts_outside.specs.Source.{SourceView}
use Rattle.ts_outside.specs.Sink.{SinkView}
use Rattle.ts_outside.specs.Told.{grown}
use Rattle.ts_outside.specs.Desk.{DeskView}
use Rattle.ts_outside.specs.Saying.{Says}
use Rattle.ts_outside.specs.Entries.{asked_for, outputs_with}
use Rattle.chain_run.specs.RunOf.{LeftInput, LeftOutput, RunBy}
use Rattle.chain_live.specs.LiveReports.{LiveLine}
use Rattle.plugin_settings.specs.Items.{preallocated_of_item}
use Rattle.tsp_top.specs.CallOutcome.{ran, unreported, out_of_memory, run_status, status_of, FaultRose, LateRose}
use Rattle.tsp_top.specs.CanEnd.{CanEndBy}
use Rattle.tsp_top.specs.MemoryFirst.{TakesLater}
use Rattle.tsp_top.specs.Openings.{asked_input, asked_output, input_closed_as, output_closed_as, OpensInput, OpensOutput, IsThrough, WasOpened}
use Rattle.tsp_top.specs.PlannedChain.{GivenInput, chain_on, GivesInput, stuffing_of, users_of, named_rules, input_name, output_name}
use Rattle.tsp_top.specs.InputRounds.{ExtendsTold, IsLeftOut, Knows}
use Rattle.tsp_top.specs.Ran.{IsReady, RanClosed, RanEnds, RanOpened, chain_over, closed_desk}
use Rattle.tsp_top.specs.Faults.{faults_from, run_faults}
use Rattle.tsp_top.specs.LeftOut.{LeftOut, input_faulty, kept_out}
use Rattle.tsp_top.specs.Printed.{live_text, reported_as, told_lines}
use Rattle.tsp_top.specs.Readings.{ReadsTo}
use Rattle.tsp_top.specs.Reported.{ReportsAsked, StandsUnreported}
use Rattle.tsp_top.specs.Sizes.{default_buffer}
use Rattle.tsp_top.specs.StreamTheorem.{StreamTheorem, IsPureOrFault, IsCutPart, ReportsPart, WritesTo}
use Rattle.tsp_top.specs.declared.status.Status.{Status}
use Rattle.tsp_top.specs.declared.status.Status.TheVariants.{Done, NoMemory}
use Rattle.tsp_top.specs.declared.status.Status.TheVariants as status
use Rattle.tsp_top.proofs.CutLemmas.{written-begins}
use Rattle.tsp_top.proofs.DeskLemmas.{SameOutside, SameCounts, LeavesAll, leaves-all, same-asked_input, same-both, asked-both, leaves-input_closed, outputs-input_closed, write_faults-input_closed, leaves-output_closed, read_faults-output_closed, closed_in-output_closed, leaves-says}
use Rattle.tsp_top.proofs.SinkLemmas.{TookBytes, outputs-took, outputs-empty, write_fault-counted, closing-counted, write_faults-stay, write-named, closing-named}
use Rattle.tsp_top.proofs.SourceLemmas.{FilesOf, some-files, some-input, read_fault-counted, reads-nothing, reads-to, read-named, size-within, live-list, plain-list}
use Rattle.tsp_top.proofs.GapLemmas.{SameSaid}
use Rattle.tsp_top.proofs.LeftLemmas.{plain-asked}
use Rattle.tsp_top.proofs.StreamLemmas.{can-end, reports-text, report-rose, report-stays, fault-rose, late-rose}

-- what was asked for where both ends were opened
abbrev both_asked : Plan → List Asked
both_asked plan = asked_for Purpose.Input (input_name plan.input) true ++ asked_for Purpose.Output (output_name plan.output) true

-- a desk before and after both ends were opened, and after they were closed
record Desks (plan : Plan) (old made closed_in closed_out : DeskView) : Type 0 where
  files : closed_out.files ≡ old.files
  reported : closed_out.reported ≡ old.reported
  report_faults : closed_out.report_faults ≡ old.report_faults
  asked : closed_out.asked ≡ grown old.asked (both_asked plan)
  made_inputs : made.closed_in ≡ old.closed_in
  made_reads : made.read_faults ≡ old.read_faults
  inputs : closed_out.closed_in ≡ closed_in.closed_in
  reads : closed_out.read_faults ≡ closed_in.read_faults
  writes : closed_in.write_faults ≡ old.write_faults
  outputs : closed_in.outputs ≡ (asked_input old plan.input).outputs
  first_outputs : (asked_input old plan.input).outputs ≡ old.outputs

-- what holds of a run whose ends were opened and closed, of the desk when all is over
record RanFacts (plan : Plan) (tables : List (List (List ℕ))) (files : List (List ℕ × List ℕ)) (given : GivenInput) (old new : DeskView) (cut : ℕ) (why : Cause) : Type 0 where
  files_are : IfSome old.files (λ told. files ≡ told)
  given_is : GivesInput plan.input old.files files given
  rose : FaultRose old new why
  can : CanEndBy plan why
  closes : IsPureOrFault (chain_on plan tables given) cut why
  reads : ReadsTo plan.general plan.input files old new cut why
  written : WritesTo plan (chain_on plan tables given) old new cut why
  asked : new.asked ≡ grown old.asked (both_asked plan)
  files_stay : new.files ≡ old.files

-- a run that was reported
reported-theorem : (plan : Plan) (tables : List (List (List ℕ))) (files : List (List ℕ × List ℕ)) (given : GivenInput) (old made new : DeskView) (cut : ℕ) (why : Cause) (late said : Bool) (st : Status)
    → RanFacts plan tables files given old new cut why → LateRose (output_name plan.output) old new why late
    → st ≡ run_status plan.general (run_faults plan.general given.left_out (chain_on plan tables given) cut why) why late
    → made.reported ≡ old.reported → made.report_faults ≡ old.report_faults → Says made new (reported_as plan.general given.left_out (chain_on plan tables given) cut why) said → StreamTheorem plan tables old new st
reported-theorem plan tables files given old made new cut why late said st facts rose told reported report_faults says = record {
  end = ran cut why late;
  files = files;
  files_are = facts.files_are;
  given = given;
  given_is = facts.given_is;
  status_tells_cause = (told, facts.rose, rose);
  can_end = facts.can;
  pure_or_fault = facts.closes;
  reads = facts.reads;
  written = facts.written;
  reported = reports-text old made new (reported_as plan.general given.left_out (chain_on plan tables given) cut why) said reported report_faults says;
  opened = facts.asked;
  files_stay = facts.files_stay;
}

-- a run for whose report there was no memory
unreported-theorem : (plan : Plan) (tables : List (List (List ℕ))) (files : List (List ℕ × List ℕ)) (given : GivenInput) (old new : DeskView) (cut : ℕ) (why : Cause) (st : Status)
    → RanFacts plan tables files given old new cut why → st ≡ NoMemory → ReportsPart plan.general.live plan.general.bare (told_lines plan.general given.left_out (chain_on plan tables given) cut) old new → StreamTheorem plan tables old new st
unreported-theorem plan tables files given old new cut why st facts told reported = record {
  end = unreported cut why;
  files = files;
  files_are = facts.files_are;
  given = given;
  given_is = facts.given_is;
  status_tells_cause = (told, facts.rose);
  can_end = facts.can;
  pure_or_fault = facts.closes;
  reads = facts.reads;
  written = facts.written;
  reported = reported;
  opened = facts.asked;
  files_stay = facts.files_stay;
}

-- what stands reported where there was no memory for the whole report
part-reported : (live bare : Bool) (lines : List LiveLine) (old made new : DeskView) → made.reported ≡ old.reported → made.report_faults ≡ old.report_faults
    → StandsUnreported live bare lines made new → LeavesAll made new × ReportsPart live bare lines old new
part-reported false bare lines old made new reported report_faults same = (
  leaves-all made new same,
  (ap (λ (v : DeskView). v.reported) same ∙ reported, ap (λ (v : DeskView). v.report_faults) same ∙ report_faults),
)
part-reported true bare lines old made new reported report_faults says = (
  leaves-says made new (live_text bare says.first) says.failed says.said,
  record {
    first = says.first;
    begins = says.begins;
    reported = reports-text old made new (live_text bare says.first) says.failed reported report_faults says.said;
  },
)

write-is-not-done : (why : Cause) → status_of why ≡ Done → why ≢ WriteFault
write-is-not-done why done is = differ (sym (ap status_of is) ∙ done)
  where
    differ : status.WriteFault ≡ Done → ⊥
    differ e = cc

opened-of : (failed : Bool) (P : Type 0) → OnTrue failed P → failed ≡ true → P
opened-of true P h e = h
opened-of false P h e = absurd (differ e)
  where
    differ : false ≡ true → ⊥
    differ e = cc

-- two ends that were opened for a plan
record Opened {S K : Type 0} (in_seen inner : S → SourceView) (out_seen : K → SinkView) (plan : Plan) (old made : DeskView) (from : InputPart S) (to : OutputPart K) : Type 0 where
  asked : made ≡ asked_output (asked_input old plan.input) plan.output
  input : OpensInput in_seen inner old plan.input from
  output : OpensOutput out_seen (asked_input old plan.input) plan.output to

desks : {S K : Type 0} (inner : S → SourceView) (out_seen : K → SinkView) (plan : Plan) (old made : DeskView) (made_from : InputPart S) (made_to : OutputPart K) (failed : Bool)
    → made ≡ asked_output (asked_input old plan.input) plan.output
    → Desks plan old made (input_closed_as inner made made_from) (closed_desk inner out_seen made made_from made_to failed)
desks inner out_seen plan old made made_from made_to failed is =
    let first = same-asked_input old plan.input in
    let B : DeskView → Type 0 = λ d. SameOutside old d × SameCounts old d in
    let both : B made = subst B (sym is) (same-both old plan.input plan.output) in
    let third = leaves-input_closed inner made made_from in
    let fourth = leaves-output_closed out_seen (input_closed_as inner made made_from) made_to failed in
    record {
      files = fourth.files ∙ third.files ∙ both.0.files;
      reported = fourth.reported ∙ third.reported ∙ both.0.reported;
      report_faults = fourth.report_faults ∙ third.report_faults ∙ both.0.report_faults;
      asked = fourth.asked ∙ third.asked ∙ ap (λ (d : DeskView). d.asked) is ∙ asked-both old plan.input plan.output;
      made_inputs = both.0.closed_in;
      made_reads = both.1.read_faults;
      inputs = closed_in-output_closed out_seen (input_closed_as inner made made_from) made_to failed;
      reads = read_faults-output_closed out_seen (input_closed_as inner made made_from) made_to failed;
      writes = write_faults-input_closed inner made made_from ∙ both.1.write_faults;
      outputs = outputs-input_closed inner made made_from ∙ both.0.outputs ∙ sym first.0.outputs;
      first_outputs = first.0.outputs;
    }

-- a run for which there was no memory
not-run : {S K : Type 0} (in_seen inner : S → SourceView) (out_seen : K → SinkView) (plan : Plan) (tables : List (List (List ℕ))) (old made new : DeskView) (from : InputPart S) (to : OutputPart K) (failed : Bool) (st : Status)
    → Opened in_seen inner out_seen plan old made from to
    → st ≡ NoMemory → new ≡ closed_desk inner out_seen made from to failed → StreamTheorem plan tables old new st
not-run in_seen inner out_seen plan tables old made new from to failed st opened e is =
    let desks = desks inner out_seen plan old made from to failed opened.asked in
    let all : List Asked = both_asked plan in
    let empty = outputs-empty out_seen (asked_input old plan.input) (input_closed_as inner made from) plan.output to failed opened.output desks.outputs in
    let files = some-files old in
    let given = some-input plan.input old.files files.0 in
    record {
      end = out_of_memory;
      files = files.0;
      files_are = files.1;
      given = given.0;
      given_is = given.1;
      status_tells_cause = e;
      can_end = tt;
      pure_or_fault = tt;
      reads = reads-nothing in_seen inner old made new files.0 plan.input from files.1 opened.input desks.made_inputs (ap (λ (v : DeskView). v.closed_in) is ∙ desks.inputs);
      written = inr (ap (λ (v : DeskView). v.outputs) is ∙ empty ∙ ap (λ o. outputs_with (output_name plan.output) o []) desks.first_outputs);
      reported = (ap (λ (v : DeskView). v.reported) is ∙ desks.reported, ap (λ (v : DeskView). v.report_faults) is ∙ desks.report_faults);
      opened = (
        length all,
        ap (λ (v : DeskView). v.asked) is ∙ desks.asked ∙ ap (λ l. grown old.asked l) (sym (take_all (length all) all (omega arith))),
      );
      files_stay = ap (λ (v : DeskView). v.files) is ∙ desks.files;
    }

-- the counts of faults of a run
faults-rose : {S K : Type 0} (in_seen inner : S → SourceView) (out_seen : K → SinkView) (plan : Plan) (old made new : DeskView) (from made_from : InputPart S) (kept : Option KeptGaps) (to made_to : OutputPart K) (failed : Bool)
    (stuffing : model.Stuffing) (buffer : ℕ) (cells : List Cell) (cut : ℕ) (why : Cause)
    → Opened in_seen inner out_seen plan old made from to
    → IsThrough in_seen inner made_from kept → LeftInput in_seen stuffing buffer from made_from cut why → LeftOutput out_seen to made_to cells cut why
    → LeavesAll (closed_desk inner out_seen made made_from made_to failed) new → FaultRose old new why
faults-rose in_seen inner out_seen plan old made new from made_from kept to made_to failed stuffing buffer cells cut why opened through input output leaves =
    let d2 : DeskView = input_closed_as inner made made_from in
    let desks = desks inner out_seen plan old made made_from made_to failed opened.asked in
    let R : ℕ → Type 0 = λ n. HasCause old.read_faults n in
    let R0 : ℕ → Type 0 = λ n. HasCause n d2.read_faults in
    let W : ℕ → Type 0 = λ n. HasCause old.write_faults n in
    let W0 : ℕ → Type 0 = λ n. HasCause n (closed_desk inner out_seen made made_from made_to failed).write_faults in
    fault-rose old new why
    (λ is. subst R (sym (leaves.read_faults ∙ desks.reads))
    (subst R0 desks.made_reads (read_fault-counted in_seen inner old made plan.input from made_from kept stuffing buffer cut why opened.input through input is)))
    (λ is. subst W (sym leaves.write_faults)
    (subst W0 desks.writes (write_fault-counted out_seen (asked_input old plan.input) d2 plan.output to made_to cells cut why failed opened.output output is)))

-- and what failed late
lates-rose : {S K : Type 0} (in_seen inner : S → SourceView) (out_seen : K → SinkView) (plan : Plan) (old made new : DeskView) (from made_from : InputPart S) (to made_to : OutputPart K) (failed said : Bool)
    (text : List ℕ) (cells : List Cell) (cut : ℕ) (why : Cause)
    → Opened in_seen inner out_seen plan old made from to → OnTrue failed (WasOpened made_to)
    → LeftOutput out_seen to made_to cells cut why
    → Says (closed_desk inner out_seen made made_from made_to failed) new text said → LateRose (output_name plan.output) old new why (failed || said)
lates-rose in_seen inner out_seen plan old made new from made_from to made_to failed said text cells cut why opened closing output says =
    let d2 : DeskView = input_closed_as inner made made_from in
    let d3 : DeskView = closed_desk inner out_seen made made_from made_to failed in
    let desks = desks inner out_seen plan old made made_from made_to failed opened.asked in
    let leaves = leaves-says d3 new text said says in
    let W : ℕ → Type 0 = λ n. HasCause n d3.write_faults in
    let W2 : ℕ → Type 0 = λ n. HasCause old.write_faults n in
    let P : ℕ → Type 0 = λ n. HasCause n new.report_faults in
    let B : Bool → Type 0 = λ b. HasCause d2.write_faults (output_closed_as out_seen d2 made_to b).write_faults in
    let T : Bool → Type 0 = λ b. Says d3 new text b in
    let F : Bool → Type 0 = λ b. (output_closed_as out_seen d2 made_to b).write_faults ≡ d2.write_faults in
    late-rose (output_name plan.output) old new why failed said
    (λ e.
    let is_open : WasOpened made_to = opened-of failed (WasOpened made_to) closing e in (
      closing-named out_seen (asked_input old plan.input) plan.output to made_to cells cut why opened.output output is_open,
      subst W2 (sym leaves.write_faults) (subst W desks.writes (subst B (sym e) (closing-counted out_seen d2 made_to is_open))),
    ))
    (λ e. subst P desks.report_faults (report-rose d3 new text (subst T e says)))
    (λ e f. (
      (λ done. leaves.write_faults
          ∙ subst F (sym e) (write_faults-stay out_seen (asked_input old plan.input) d2 plan.output to made_to cells cut why opened.output output (write-is-not-done why done))
          ∙ desks.writes),
      report-stays d3 new text (subst T f says) ∙ desks.report_faults,
    ))

-- three equations, one after another
subst-three : (F : List PluginRule → StageList → List ℕ → Type 0) (a b : List PluginRule) (c d : StageList) (e f : List ℕ)
    → a ≡ b → c ≡ d → e ≡ f → F a c e → F b d f
subst-three F a b c d e f p q r h =
    let A : List PluginRule → Type 0 = λ x. F x c e in
    let B : StageList → Type 0 = λ x. F b x e in
    let C : List ℕ → Type 0 = λ x. F b d x in
    subst C r (subst B q (subst A p h))

-- what was written of the lists of some chain
abbrev WritesOf : Plan → DeskView → DeskView → ℕ → Cause → List PluginRule → StageList → List ℕ → Type 0
WritesOf plan old new cut why rules list users =
    (bytes : List ℕ) × (new.outputs ≡ outputs_with (output_name plan.output) old.outputs bytes)
    × ((part : List ℕ) × (bytes ≡ written (take cut (end_list rules list).cells) ++ part) × IsCutPart (end_list rules list).cells cut why part)
    × IsPrefix bytes (written (take (cut_of rules list users) (end_list rules list).cells))

-- a plugin that made no room for the buffer does not take it before the run
takes-later : (items : List PluginItem) (buffer j : ℕ) → j < length items
    → (IsPreallocatedFor (slice_index_or (map (λ item. preallocated_of_item item buffer) items) j None) buffer → ⊥) → TakesLater items j
takes-later [] buffer j less no_room = absurd (omega arith)
takes-later (item ∷ items) buffer zero less no_room = λ preallocated.
    let S : Option ℕ → Type 0 = λ o. IsPreallocatedFor o buffer in
    let enough : S (Some buffer) = omega arith in
    no_room (subst S (sym (preallocated buffer)) enough)
takes-later (item ∷ items) buffer (suc j) less no_room = takes-later items buffer j (omega arith) no_room

module _ {S K P : Type 0} (see : Seeing S K P) (stands : Heard P → List Cell → ℕ → Type 0) (inner : S → SourceView) (plan : Plan) (tables : List (List (List ℕ))) (old made new : DeskView) (from made_from : InputPart S) (kept : Option KeptGaps) (stuffing : Stuffing)
    (plugins : List (Heard P)) (to made_to : OutputPart K) (failed : Bool) (numbers : CorePlan) (closed : Closed) (result : Status)
    (opened : Opened see.source inner see.sink plan old made from to) (through : IsThrough see.source inner made_from kept)
    (ready : IsReady see.rule see.stands see.preallocated plan tables stuffing numbers plugins) where
  abbrev d2 : DeskView
  d2 = input_closed_as inner made made_from

  abbrev d3 : DeskView
  d3 = closed_desk inner see.sink made made_from made_to failed

  abbrev steps : Desks plan old made d2 d3
  steps = desks inner see.sink plan old made made_from made_to failed opened.asked

  module _ (plugins_made : List (Heard P)) (run : RunBy see stands from made_from stuffing plugins plugins_made to made_to numbers closed)
      (Fits : Option LeftOut → Type 0) (chosen : FilesOf old plan.input (stuffing_of plan.general) run.list Fits) where
    abbrev own : List PluginRule
    own = map (heard_rule see) plugins

    abbrev users : List ℕ
    users = stages_of numbers.users

    abbrev cells : List Cell
    cells = (end_list own run.list).cells

    -- what holds of the run's lists holds of the plan's chain
    of-plan : (F : List PluginRule → StageList → List ℕ → Type 0) → F own run.list users
        → F (chain_rules (chain_on plan tables chosen.given)) (chain_on plan tables chosen.given).input (chain_on plan tables chosen.given).users
    of-plan F h =
        subst-three F own (rules_of (named_rules plan.plugins tables)) run.list (stuffed (stuffing_of plan.general) chosen.given.list) users (users_of plan)
        ready.rules chosen.list_is ready.numbers_are.users h

    want : (k : ℕ) → closed.cause ≡ cause.NoMemory k → CanEndBy plan (cause.NoMemory k)
    want zero is = absurd (let a = (run.memory zero is).after_input in omega arith)
    want (suc j) is =
        let wants = run.memory (suc j) is in
        let same : length (map (heard_preallocated see) plugins) ≡ length plan.plugins = ap (λ (l : List (Option ℕ)). length l) ready.rooms ∙ length-map plan.plugins (λ item. preallocated_of_item item numbers.buffer) in
        let at : suc j - 1 ≡ j = omega arith in
        let F : List (Option ℕ) → ℕ → Type 0 = λ rooms i. IsPreallocatedFor (slice_index_or rooms i None) numbers.buffer → ⊥ in
        let no_room : F (map (λ item. preallocated_of_item item numbers.buffer) plan.plugins) j =
        subst (λ (i : ℕ). F (map (λ item. preallocated_of_item item numbers.buffer) plan.plugins) i) at (subst (λ (rooms : List (Option ℕ)). F rooms (suc j - 1)) ready.rooms wants.no_room) in
        takes-later plan.plugins numbers.buffer j (let b = wants.there_is in omega arith) no_room

    writes : LeavesAll d3 new → WritesOf plan old new closed.cut closed.cause own run.list users
    writes leaves =
        let took : TookBytes cells closed.cut closed.cause (asked_input old plan.input).outputs d3.outputs (output_name plan.output) =
        outputs-took see.sink (asked_input old plan.input) d2 plan.output to made_to cells closed.cut closed.cause failed opened.output run.output steps.outputs in
        let bytes : List ℕ = written (take closed.cut cells) ++ took.part in (
          bytes,
          leaves.outputs ∙ took.outputs ∙ ap (λ o. outputs_with (output_name plan.output) o bytes) steps.first_outputs,
          (took.part, refl, took.cut_part),
          written-begins own run.list users closed.cut closed.cause took.part run.closes took.cut_part,
        )

    ran-facts : LeavesAll d3 new → RanFacts plan tables chosen.files chosen.given old new closed.cut closed.cause
    ran-facts leaves = record {
      files_are = chosen.files_are;
      given_is = chosen.given_is;
      rose = faults-rose see.source inner see.sink plan old made new from made_from kept to made_to failed (stage.stuffing_of stuffing) numbers.buffer cells closed.cut closed.cause opened through run.input run.output leaves;
      can = can-end plan closed.cause
          (read-named see.source inner old plan.input from made_from (stage.stuffing_of stuffing) numbers.buffer closed.cut closed.cause opened.input run.input)
          (write-named see.sink (asked_input old plan.input) plan.output to made_to cells closed.cut closed.cause opened.output run.output)
          want;
      closes = of-plan (λ rs l us. IsPureClose rs l us closed.cut closed.cause ⊎ IsValidFault rs l us closed.cut closed.cause) run.closes;
      reads = reads-to see.source inner old made new chosen.files plan.general plan.input from made_from kept (stage.stuffing_of stuffing) numbers.buffer closed.cut closed.cause
          ready.stuffing_is (size-within plan.general.buffer_packets default_buffer numbers.buffer ready.numbers_are.buffer) chosen.files_are opened.input through steps.made_inputs (leaves.closed_in ∙ steps.inputs) run.input;
      written = of-plan (WritesOf plan old new closed.cut closed.cause) (writes leaves);
      asked = leaves.asked ∙ steps.asked;
      files_stay = leaves.files ∙ steps.files;
    }

    -- its faults are those of the plan's chain
    faults-same : (input_faulty (stuffing_of plan.general) chosen.given.left_out closed.cut closed.cause || faults_from (rules_of (named_rules plan.plugins tables)) run.list closed.cut 0 (named_rules plan.plugins tables))
        ≡ run_faults plan.general chosen.given.left_out (chain_on plan tables chosen.given) closed.cut closed.cause
    faults-same =
        ap (λ (l : StageList). input_faulty (stuffing_of plan.general) chosen.given.left_out closed.cut closed.cause || faults_from (rules_of (named_rules plan.plugins tables)) l closed.cut 0 (named_rules plan.plugins tables)) chosen.list_is

    -- a run that was closed, and then reported, or not where there was no memory for that
    ran-closed : (st : Status) (Known : Type 0) → OnTrue failed (WasOpened made_to)
        → ReportsAsked plan.general (reported_as plan.general chosen.given.left_out (chain_over plan tables run.list) closed.cut closed.cause)
        (told_lines plan.general chosen.given.left_out (chain_over plan tables run.list) closed.cut)
        (input_faulty (stuffing_of plan.general) chosen.given.left_out closed.cut closed.cause || faults_from (rules_of (named_rules plan.plugins tables)) run.list closed.cut 0 (named_rules plan.plugins tables)) Known closed.cause failed d3 new st → StreamTheorem plan tables old new st
    ran-closed st Known closing (inl report) =
        let text : List ℕ = reported_as plan.general chosen.given.left_out (chain_on plan tables chosen.given) closed.cut closed.cause in
        let T : StageList → Type 0 = λ l. Says d3 new (reported_as plan.general chosen.given.left_out (chain_over plan tables l) closed.cut closed.cause) report.0 in
        let says : Says d3 new text report.0 = subst T chosen.list_is report.1 in
        let facts = ran-facts (leaves-says d3 new text report.0 says) in
        let late = lates-rose see.source inner see.sink plan old made new from made_from to made_to failed report.0 text cells closed.cut closed.cause opened closing run.output says in
        reported-theorem plan tables chosen.files chosen.given old d3 new closed.cut closed.cause (failed || report.0) report.0 st facts late
        (report.2 ∙ ap (λ (faulty : Bool). run_status plan.general faulty closed.cause (failed || report.0)) faults-same) steps.reported steps.report_faults says
    ran-closed st Known closing (inr none) =
        let part = part-reported plan.general.live plan.general.bare (told_lines plan.general chosen.given.left_out (chain_over plan tables run.list) closed.cut) old d3 new steps.reported steps.report_faults none.1 in
        unreported-theorem plan tables chosen.files chosen.given old new closed.cut closed.cause st (ran-facts part.0) none.0
        (subst (λ (l : StageList). ReportsPart plan.general.live plan.general.bare (told_lines plan.general chosen.given.left_out (chain_over plan tables l) closed.cut) old new) chosen.list_is part.1)

  -- whether its lines were printed at the end or while it went
  module _ (ran : RanClosed see stands inner plan tables stuffing numbers made new from made_from kept plugins to made_to failed result closed) (closing : OnTrue failed (WasOpened made_to)) where
    abbrev some : 1 ≤ (stuffing_of plan.general).every
    some = subst (λ (s : model.Stuffing). 1 ≤ s.every) ready.stuffing_is ready.every

    list-of : IsListOf see.source from (stuffing_of plan.general) ran.run.list
    list-of = subst (λ (s : model.Stuffing). IsListOf see.source from s ran.run.list) ready.stuffing_is ran.run.is_list

    closed-plain : plan.general.live ≡ false → StreamTheorem plan tables old new result
    closed-plain plain =
        let s : model.Stuffing = stuffing_of plan.general in
        let chosen = plain-list see.source inner old plan.input from made_from s (stage.stuffing_of stuffing) ran.run.list kept numbers.buffer closed.cut closed.cause some opened.input list-of through ran.run.input in
        let is : IsLeftOut plan.general.live s ran.form ran.gaps ran.at kept closed.cause (kept_out kept) =
        subst (λ (b : Bool). IsLeftOut b s ran.form ran.gaps ran.at kept closed.cause (kept_out kept)) (sym plain) refl in
        ran-closed ran.made ran.run (SameSaid s kept) chosen result (Knows plan.general.live s kept closed.cut closed.cause) closing
        (plain-asked plan.general kept chosen.given.left_out (chain_over plan tables ran.run.list) closed _ failed d3 new result plain chosen.said (ran.reported (kept_out kept) is))

    closed-telling : plan.general.live ≡ true → StreamTheorem plan tables old new result
    closed-telling live =
        let s : model.Stuffing = stuffing_of plan.general in
        let chosen = live-list see.source inner old plan.input from made_from s (stage.stuffing_of stuffing) ran.run.list kept numbers.buffer closed.cut closed.cause ran.form ran.gaps ran.at some (ran.told live) opened.input list-of through ran.run.input in
        ran-closed ran.made ran.run (ExtendsTold s ran.form ran.gaps ran.at kept closed.cause) chosen result (Knows plan.general.live s kept closed.cut closed.cause) closing
        (ran.reported chosen.given.left_out (subst (λ (b : Bool). IsLeftOut b s ran.form ran.gaps ran.at kept closed.cause chosen.given.left_out) (sym live) chosen.said))

    closed-theorem : (live : Bool) → plan.general.live ≡ live → StreamTheorem plan tables old new result
    closed-theorem true is = closed-telling is
    closed-theorem false is = closed-plain is

-- a run between two opened ends
pub ran-theorem : {S K P : Type 0} (see : Seeing S K P) (stands : Heard P → List Cell → ℕ → Type 0) (inner : S → SourceView) (plan : Plan) (tables : List (List (List ℕ))) (stuffing : Stuffing) (numbers : CorePlan) (old made new : DeskView) (from : InputPart S) (plugins : List (Heard P)) (to : OutputPart K) (st : Status)
    → made ≡ asked_output (asked_input old plan.input) plan.output
    → OpensInput see.source inner old plan.input from → OpensOutput see.sink (asked_input old plan.input) plan.output to
    → IsReady see.rule see.stands see.preallocated plan tables stuffing numbers plugins
    → RanOpened see stands inner plan tables stuffing numbers made new from plugins to st
    → StreamTheorem plan tables old new st
ran-theorem {S} {K} {P} see stands inner plan tables stuffing numbers old made new from plugins to st is opens_in opens_out ready run =
    ran-ends run.made_from run.kept run.made_to run.failed run.failed_opened run.through run.ends
  where
    ran-ends : (made_from : InputPart S) (kept : Option KeptGaps) (made_to : OutputPart K) (failed : Bool) → OnTrue failed (WasOpened made_to) → IsThrough see.source inner made_from kept
        → RanEnds see stands inner plan tables stuffing numbers made new from made_from kept plugins to made_to failed st → StreamTheorem plan tables old new st
    ran-ends made_from kept made_to failed closing through (inl closed) =
        let opened : Opened see.source inner see.sink plan old made from to = record { asked = is; input = opens_in; output = opens_out } in
        closed-theorem see stands inner plan tables old made new from made_from kept stuffing plugins to made_to failed numbers closed.0 st opened through ready closed.1 closing plan.general.live refl
    ran-ends made_from kept made_to failed closing through (inr none) =
        let opened : Opened see.source inner see.sink plan old made from to = record { asked = is; input = opens_in; output = opens_out } in
        let F : InputPart S → Type 0 = λ p. new ≡ closed_desk inner see.sink made p made_to failed in
        let T : OutputPart K → Type 0 = λ p. new ≡ closed_desk inner see.sink made from p failed in
        not-run see.source inner see.sink plan tables old made new from to failed st opened none.status_is
        (subst T none.output_same (subst F none.input_same none.desk))
