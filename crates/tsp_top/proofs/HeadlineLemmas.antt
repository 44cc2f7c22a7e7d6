-- The headline, from the stream theorem.
use Rattle.std.proofs.Common.{◌≡◌, ◌⊎◌, inl, inr, ℕ, zero, suc, List, [], ◌∷◌, ◌++◌, ◌+◌, length, Bool, true, false, if◌then◌else◌, Option, Some, None, refl, ap, sym, ◌∙◌, subst, arith, append-nil}
use Rattle.std.specs.Prelude.{IsTrue, IfSome, is_some, ◌&&◌}
use Rattle.std.proofs.lemmas.Bool.{cond-true}
use Rattle.chain_model.specs.declared.input_end.InputEnd.TheVariants.{End, Sync, ReadFault, TooLong}
use Rattle.chain_model.specs.declared.cause.Cause.{Cause}
use Rattle.chain_model.specs.declared.cause.Cause.TheVariants.{Input, Joint, Until, Stop, Refuse, WriteFault, NoMemory}
use Rattle.std.specs.List.{AllByRecursion}
use Rattle.chain_core.proofs.Facts.{all_by_recursion}
use Rattle.chain_model.specs.Cut.{is_fault}
use Rattle.chain_model.specs.PureRun.{Chain, chain_cause, chain_cut, pure_run, written_to}
use Rattle.chain_model.specs.Stuffed.{Stuffing, stuffed}
use Rattle.plugin_settings.specs.declared.plugin_item.PluginItem.{PluginItem}
use Rattle.chain_args.specs.PlanOf.{plan_of}
use Rattle.chain_args.specs.WordsFault.{IsFirstFault}
use Rattle.chain_args.specs.declared.input_conf.InputConf.{InputConf}
use Rattle.chain_args.specs.declared.input_conf.InputConf.TheVariants as input
use Rattle.chain_args.specs.declared.plan_type.Plan.{Plan}
use Rattle.chain_args.specs.declared.general_conf.GeneralConf.{GeneralConf}
use Rattle.plugin_options.specs.declared.words_rule.WordsRule.{WordsRule}
use Rattle.chain_args.specs.declared.words_fault.WordsFault.TheVariants.{At}
use Rattle.ts_outside.specs.Count.{HasCause, IsQuiet}
use Rattle.ts_outside.specs.Told.{grown}
use Rattle.ts_outside.specs.Desk.{DeskView, file_of}
use Rattle.ts_outside.specs.Entries.{outputs_with}
use Rattle.ts_outside.specs.Faultless.{NothingFails}
use Rattle.tsp_top.specs.CallOutcome.{CallOutcome, no_input, no_output, ran, unreported, out_of_memory, done_status, in_place_of_done, is_plain_end, run_status, status_in_time, status_of, FaultRose, StatusTellsCause}
use Rattle.tsp_top.specs.CanEnd.{CanEnd, CanEndBy}
use Rattle.tsp_top.specs.MemoryFirst.{IsPreallocated, ArePreallocated, NoStageWants, TakesLater}
use Rattle.tsp_top.specs.PlannedChain.{GivenInput, given_of, chain_of, chain_on, input_of, GivesFile, GivesInput, named_rules, output_name, stuffing_of, users_from, users_of}
use Rattle.tsp_top.specs.PlannedTables.{AreTables, tables_asked}
use Rattle.tsp_top.specs.Faults.{run_faults}
use Rattle.tsp_top.specs.LeftOut.{LeftOut}
use Rattle.tsp_top.specs.Printed.{reported_as, told_lines}
use Rattle.chain_live.specs.LiveReports.{LiveLine}
use Rattle.tsp_top.specs.StreamTheorem.{EndsRight, IsWrittenTo, Writes, Reports, ReportsPart}
use Rattle.tsp_top.specs.TspCall.{CallsPlan, CallsTsp}
use Rattle.tsp_top.specs.Headline.{TellsInput, TellsTables, IsPureCall, IsPureOrWants, IsPureOrEnds, IsDoneOrWants, EndsWell, SameButSizes, pure_status}
use Rattle.tsp_top.specs.WantsMemory.{WantsMemoryFirst}
use Rattle.tsp_top.specs.declared.status.Status.{Status}
use Rattle.tsp_top.specs.declared.status.Status.TheVariants as status
use Rattle.tsp_top.proofs.TableFacts.{tables-same, no-end, ends-not-wanting}

-- where no fault happened there is none to report
quiet-no_cause : (old new : ℕ) → IsQuiet old new → HasCause old new → ⊥
quiet-no_cause old new quiet cause = let rose = cause.rose quiet.below in let same = quiet.same in absurd (omega arith)

no_rise : (old new : DeskView) (why : Cause) → NothingFails old new → FaultRose old new why → (why ≡ WriteFault → ⊥) × (why ≡ Input ReadFault → ⊥)
no_rise old new why fine rose = (
  λ is. quiet-no_cause old.write_faults new.write_faults fine.writes (subst (λ w. FaultRose old new w) is rose),
  λ is. quiet-no_cause old.read_faults new.read_faults fine.reads (subst (λ w. FaultRose old new w) is rose),
)

-- the bytes of a run that did not end by a failed write
whole-bytes : (chain : Chain) (cut : ℕ) (why : Cause) (bytes : List ℕ) → (why ≡ WriteFault → ⊥) → IsWrittenTo chain cut why bytes → bytes ≡ written_to chain cut
whole-bytes chain cut (Input how) bytes no_ is = is.1 ∙ (ap (λ l. written_to chain cut ++ l) is.2 ∙ append-nil (written_to chain cut))
whole-bytes chain cut Joint bytes no_ is = is.1 ∙ (ap (λ l. written_to chain cut ++ l) is.2 ∙ append-nil (written_to chain cut))
whole-bytes chain cut (Until j) bytes no_ is = is.1 ∙ (ap (λ l. written_to chain cut ++ l) is.2 ∙ append-nil (written_to chain cut))
whole-bytes chain cut (Stop j) bytes no_ is = is.1 ∙ (ap (λ l. written_to chain cut ++ l) is.2 ∙ append-nil (written_to chain cut))
whole-bytes chain cut (Refuse j reason) bytes no_ is = is.1 ∙ (ap (λ l. written_to chain cut ++ l) is.2 ∙ append-nil (written_to chain cut))
whole-bytes chain cut WriteFault bytes no_ is = absurd (no_ refl)
whole-bytes chain cut (NoMemory k) bytes no_ is = is.1 ∙ (ap (λ l. written_to chain cut ++ l) is.2 ∙ append-nil (written_to chain cut))

-- a fault that is in no count is that memory ran out
only-memory : (why : Cause) → IsTrue (is_fault why) → (why ≡ WriteFault → ⊥) → (why ≡ Input ReadFault → ⊥) → status_of why ≡ status.NoMemory
only-memory (Input (End left)) fault no_write no_read = cc
only-memory (Input (Sync packet)) fault no_write no_read = cc
only-memory (Input ReadFault) fault no_write no_read = absurd (no_read refl)
only-memory (Input TooLong) fault no_write no_read = cc
only-memory Joint fault no_write no_read = cc
only-memory (Until j) fault no_write no_read = cc
only-memory (Stop j) fault no_write no_read = cc
only-memory (Refuse j reason) fault no_write no_read = cc
only-memory WriteFault fault no_write no_read = absurd (no_write refl)
only-memory (NoMemory k) fault no_write no_read = refl

module _ (plan : Plan) (tables : List (List (List ℕ))) (given : GivenInput) (old new : DeskView) (answer : Status) (fine : NothingFails old new) where
  abbrev chain : Chain
  chain = chain_on plan tables given

  by-end : (end : CallOutcome) → StatusTellsCause plan given.left_out chain old new answer end → EndsRight chain end → Writes plan chain old new end → Reports plan given.left_out chain old new end
      → (answer ≡ status.NoMemory) ⊎ IsPureCall plan tables given old new answer
  by-end no_input tells right writes reports = absurd (quiet-no_cause old.read_faults new.read_faults fine.reads tells.1)
  by-end no_output tells right writes reports = absurd (quiet-no_cause old.write_faults new.write_faults fine.writes tells.1)
  by-end (ran cut why true) tells right writes reports =
      elim tells.2 [
        | inl write ↦ absurd (quiet-no_cause old.write_faults new.write_faults fine.writes write.1)
        | inr report ↦ absurd (quiet-no_cause old.report_faults new.report_faults fine.reports report)
      ]
  by-end (ran cut why false) tells right writes reports =
      let faults = no_rise old new why fine tells.1 in
      elim right [
        | inl pure ↦ inr (record {
          written = writes.1 ∙ ap (λ l. outputs_with (output_name plan.output) old.outputs l) (whole-bytes chain cut why writes.0 faults.0 writes.2 ∙ ap (written_to chain) pure.0);
          reported = elim reports [
            | inl whole ↦ whole.0 ∙ ap (λ l. grown old.reported l) (ap (λ m. reported_as plan.general given.left_out chain m why) pure.0 ∙ ap (reported_as plan.general given.left_out chain (chain_cut chain)) pure.1)
            | inr part ↦ absurd (quiet-no_cause old.report_faults new.report_faults fine.reports part.3)
          ];
          answered = tells.0
              ∙ (ap (λ m. status_in_time plan.general (run_faults plan.general given.left_out chain m why) why) pure.0
              ∙ ap (λ w. status_in_time plan.general (run_faults plan.general given.left_out chain (chain_cut chain) w) w) pure.1);
        })
        | inr fault ↦ inl (tells.0 ∙ ap (in_place_of_done (done_status plan.general (run_faults plan.general given.left_out chain cut why) why)) (only-memory why fault.fault faults.0 faults.1))
      ]
  by-end (unreported cut why) tells right writes reports = inl tells.0
  by-end out_of_memory tells right writes reports = inl tells

-- words with a plan break no rule
no-fault : (words : List (List ℕ)) (plan : Plan) (word : ℕ) (rule : WordsRule) → plan_of words ≡ Some plan → IsFirstFault words (At word rule) → ⊥
unfolding plan_of
no-fault words plan word rule is fault =
    let none : plan_of words ≡ None = cond-true _ _ _ (ap is_some fault) in
    let e : None ≡ Some plan = sym none ∙ is in absurd cc

-- a call whose words have a plan is one of it, or memory ran out before anything was opened
pub planned-call : (words : List (List ℕ)) (plan : Plan) (old new : DeskView) (answer : Status) → plan_of words ≡ Some plan → CallsTsp words old new answer
    → CallsPlan plan old new answer ⊎ ((answer ≡ status.NoMemory) × (new ≡ old))
planned-call words plan old new answer is calls =
    elim calls [
      | inl planned ↦ (let e : Some planned.0 ≡ Some plan = sym planned.1 ∙ is in
          let same : planned.0 ≡ plan = cc in inl (subst (λ p. CallsPlan p old new answer) same planned.2))
      | inr other ↦ elim other [
        | inl refused ↦ absurd (no-fault words plan refused.0 refused.1 is refused.2)
        | inr wanting ↦ inr wanting
      ]
    ]

-- over any desk, for the tables and the files of the theorem
pure-or-ends : (plan : Plan) (old new : DeskView) (answer : Status) → CallsPlan plan old new answer → NothingFails old new → IsPureOrEnds plan old new answer
pure-or-ends plan old new answer (inl runs) fine =
    let t = runs.theorem in
    elim (by-end plan runs.tables t.given (tables_asked old plan) new answer (record { reads = fine.reads; writes = fine.writes; reports = fine.reports })
    t.end t.status_tells_cause t.pure_or_fault t.written t.reported) [
      | inl wants ↦ inl wants
      | inr pure ↦ inr (inl (record {
        tables = runs.tables;
        tables_are = runs.tables_are;
        files = t.files;
        files_are = t.files_are;
        given = t.given;
        given_is = t.given_is;
        pure = record { written = pure.written; reported = pure.reported; answered = pure.answered };
      }))
    ]
pure-or-ends plan old new answer (inr (inl ends)) fine = inr (inr ends)
pure-or-ends plan old new answer (inr (inr wants)) fine = inl wants.status_is

pub of-some : (words : List (List ℕ)) (plan : Plan) (old new : DeskView) (answer : Status)
    → plan_of words ≡ Some plan → CallsTsp words old new answer → NothingFails old new → IsPureOrEnds plan old new answer
of-some words plan old new answer is calls fine =
    elim (planned-call words plan old new answer is calls) [
      | inl planned ↦ pure-or-ends plan old new answer planned fine
      | inr wanting ↦ inl wanting.0
    ]

-- what the input of a plan gives, where its bytes are known, is that of the files
file-given : (resync : Bool) (told : Option (List (List ℕ × List ℕ))) (files : List (List ℕ × List ℕ)) (known given : GivenInput) → told ≡ Some files → GivesFile resync told known given → given ≡ known
file-given true None files known given tells gives = absurd cc
file-given true (Some t) files known given tells gives = gives
file-given false told files known given tells gives = gives

same-input : (conf : InputConf) (desk : DeskView) (files other : List (List ℕ × List ℕ)) (given : GivenInput) → TellsInput conf desk files → IfSome desk.files (λ told. other ≡ told)
    → GivesInput conf desk.files other given → given ≡ input_of conf files
same-input (input.File name form resync) desk files other given tells is gives =
    let same : other ≡ files = subst (λ (o : Option (List (List ℕ × List ℕ))). IfSome o (λ told. other ≡ told)) tells is in
    file-given resync desk.files files (input_of (input.File name form resync) other) given tells gives
    ∙ ap (λ (fs : List (List ℕ × List ℕ)). given_of resync form (file_of fs name)) same
same-input (input.Null count) desk files other given tells is gives = gives
same-input (input.TestGen seed count) desk files other given tells is gives = gives

same-chain : (plan : Plan) (old : DeskView) (tables some : List (List (List ℕ))) (files other : List (List ℕ × List ℕ)) (given : GivenInput)
    → TellsInput plan.input old files → TellsTables plan.plugins old files → AreTables old plan.plugins tables → AreTables old plan.plugins some → IfSome old.files (λ told. other ≡ told)
    → GivesInput plan.input old.files other given → chain_on plan some given ≡ chain_of plan tables files
same-chain plan old tables some files other given tells tells_tables are some_are is gives =
    let C : List (List (List ℕ)) → GivenInput → Chain = λ t i. record { input = stuffed (stuffing_of plan.general) i.list; plugins = named_rules plan.plugins t; users = users_of plan } in
    ap (λ (t : List (List (List ℕ))). C t given) (tables-same old files plan.plugins some tables tells_tables some_are are)
    ∙ ap (λ (i : GivenInput). C tables i) (same-input plan.input old files other given tells is gives)

pub headline : (words : List (List ℕ)) (plan : Plan) (tables : List (List (List ℕ))) (files : List (List ℕ × List ℕ)) (old new : DeskView) (answer : Status)
    → plan_of words ≡ Some plan → TellsInput plan.input old files → TellsTables plan.plugins old files → AreTables old plan.plugins tables
    → CallsTsp words old new answer → NothingFails old new → IsPureOrWants plan tables files old new answer
headline words plan tables files old new answer is tells tells_tables are calls fine =
    elim (of-some words plan old new answer is calls fine) [
      | inl wants ↦ inl wants
      | inr other ↦ elim other [
        | inl some ↦ (let same : chain_on plan some.tables some.given ≡ chain_of plan tables files =
            same-chain plan old tables some.tables files some.files some.given tells tells_tables are some.tables_are some.files_are some.given_is in
            let left : some.given.left_out ≡ (input_of plan.input files).left_out = ap (λ (g : GivenInput). g.left_out) (same-input plan.input old files some.files some.given tells some.files_are some.given_is) in inr (record {
              written = some.pure.written ∙ ap (λ (c : Chain). outputs_with (output_name plan.output) old.outputs (pure_run c).written) same;
              reported = some.pure.reported ∙ ap (λ (o : Option LeftOut). grown old.reported (reported_as plan.general o (chain_on plan some.tables some.given) (chain_cut (chain_on plan some.tables some.given)) (chain_cause (chain_on plan some.tables some.given)))) left
                  ∙ ap (λ (c : Chain). grown old.reported (reported_as plan.general (input_of plan.input files).left_out c (chain_cut c) (chain_cause c))) same;
              answered = some.pure.answered ∙ ap (λ (o : Option LeftOut). pure_status plan.general o (chain_on plan some.tables some.given)) left
                  ∙ ap (λ (c : Chain). pure_status plan.general (input_of plan.input files).left_out c) same;
            }))
        | inr ends ↦ absurd (no-end old files plan.plugins tables new answer tells_tables are (quiet-no_cause old.read_faults new.read_faults fine.reads) ends)
      ]
    ]

-- a cause that is no fault gives the status `Done`
well-done : (why : Cause) → EndsWell why → status_of why ≡ status.Done
well-done (Input (End left)) well = refl
well-done (Input (Sync packet)) well = absurd well
well-done (Input ReadFault) well = absurd well
well-done (Input TooLong) well = absurd well
well-done Joint well = refl
well-done (Until j) well = refl
well-done (Stop j) well = refl
well-done (Refuse j reason) well = absurd well
well-done WriteFault well = absurd well
well-done (NoMemory k) well = absurd well

pub completeness : (words : List (List ℕ)) (plan : Plan) (tables : List (List (List ℕ))) (files : List (List ℕ × List ℕ)) (old new : DeskView) (answer : Status)
    → plan_of words ≡ Some plan → TellsInput plan.input old files → TellsTables plan.plugins old files → AreTables old plan.plugins tables
    → CallsTsp words old new answer → NothingFails old new
    → EndsWell (pure_run (chain_of plan tables files)).cause → IsDoneOrWants plan tables files answer
completeness words plan tables files old new answer is tells tells_tables are calls fine well =
    elim (headline words plan tables files old new answer is tells tells_tables are calls fine) [
      | inl wants ↦ inr wants
      | inr pure ↦ inl (pure.answered
          ∙ ap (in_place_of_done (done_status plan.general (run_faults plan.general (input_of plan.input files).left_out (chain_of plan tables files) (chain_cut (chain_of plan tables files)) (chain_cause (chain_of plan tables files))) (chain_cause (chain_of plan tables files)))) (well-done (pure_run (chain_of plan tables files)).cause well))
    ]

-- plans that differ in their sizes alone have one chain
pub same-but-sizes : (one other : Plan) (tables : List (List (List ℕ))) (files : List (List ℕ × List ℕ)) → SameButSizes one other → chain_of other tables files ≡ chain_of one tables files
same-but-sizes one other tables files same =
    let S : Stuffing → InputConf → Chain = λ s i. record { input = stuffed s (input_of i files).list; plugins = named_rules other.plugins tables; users = users_of other } in
    let U : List PluginItem → Bool → Chain = λ items ignored. record { input = stuffed (stuffing_of one.general) (input_of one.input files).list; plugins = named_rules items tables; users = if ignored then [] else users_from 1 items } in
    let stuffing : stuffing_of other.general ≡ stuffing_of one.general = cc (same.start, same.stop, same.between) in
    ap (λ (s : Stuffing). S s other.input) stuffing
    ∙ ap (λ (i : InputConf). S (stuffing_of one.general) i) same.input
    ∙ ap (λ (items : List PluginItem). U items other.general.ignore_joint_termination) same.plugins
    ∙ ap (λ (b : Bool). U one.plugins b) same.ignored

-- of plugins that all take their room before the run none takes it later
none-later : (items : List PluginItem) (j : ℕ) → AllByRecursion IsPreallocated items → TakesLater items j → ⊥
none-later [] j all later = later
none-later (item ∷ items) zero all later = later all.0
none-later (item ∷ items) (suc j) all later = none-later items j all.1 later

no-want : (plan : Plan) (why : Cause) → ArePreallocated plan.plugins → CanEndBy plan why → NoStageWants why
no-want plan why preallocated can zero is = subst (λ (w : Cause). CanEndBy plan w) is can
no-want plan why preallocated can (suc j) is =
    none-later plan.plugins j (all_by_recursion IsPreallocated plan.plugins preallocated) (subst (λ (w : Cause). CanEndBy plan w) is can)

-- what a run is that is done is not that memory ran out
no-wish : (ended faulty : Bool) → status.NoMemory ≡ (if ended then status.InputEnded else (if faulty then status.FaultFound else status.Done)) → ⊥
no-wish true faulty is = cc
no-wish false true is = cc
no-wish false false is = cc

not-wanting : (general : GeneralConf) (faulty : Bool) (why : Cause) → status.NoMemory ≡ done_status general faulty why → ⊥
not-wanting general faulty why is = no-wish (general.endless && is_plain_end why) (general.fail_on_faults && faulty) is

-- to ask for files of tables reports nothing
part-behind : (live bare : Bool) (lines : List LiveLine) (plan : Plan) (old new : DeskView) → ReportsPart live bare lines (tables_asked old plan) new → ReportsPart live bare lines old new
part-behind false bare lines plan old new part = part
part-behind true bare lines plan old new part = record { first = part.first; begins = part.begins; reported = part.reported }

-- what is left where memory ran out, of plugins that take their room first
module _ (plan : Plan) (tables : List (List (List ℕ))) (files : List (List ℕ × List ℕ)) (given : GivenInput) (old new : DeskView) (tables_are : AreTables old plan.plugins tables) (files_are : IfSome old.files (λ told. files ≡ told))
    (given_is : GivesInput plan.input old.files files given) (preallocated : ArePreallocated plan.plugins) where
  abbrev behind : DeskView
  behind = tables_asked old plan

  not-done : (faulty : Bool) (why : Cause) (late : Bool) → NoStageWants why → status.NoMemory ≡ run_status plan.general faulty why late → ⊥
  not-done faulty (Input (End left)) true none is = cc
  not-done faulty (Input (End left)) false none is = not-wanting plan.general faulty (Input (End left)) is
  not-done faulty (Input (Sync packet)) true none is = cc
  not-done faulty (Input (Sync packet)) false none is = cc
  not-done faulty (Input ReadFault) true none is = cc
  not-done faulty (Input ReadFault) false none is = cc
  not-done faulty (Input TooLong) true none is = cc
  not-done faulty (Input TooLong) false none is = cc
  not-done faulty Joint true none is = cc
  not-done faulty Joint false none is = not-wanting plan.general faulty Joint is
  not-done faulty (Until j) true none is = cc
  not-done faulty (Until j) false none is = not-wanting plan.general faulty (Until j) is
  not-done faulty (Stop j) true none is = cc
  not-done faulty (Stop j) false none is = not-wanting plan.general faulty (Stop j) is
  not-done faulty (Refuse j reason) true none is = cc
  not-done faulty (Refuse j reason) false none is = cc
  not-done faulty WriteFault true none is = cc
  not-done faulty WriteFault false none is = cc
  not-done faulty (NoMemory k) late none is = none k refl

  wants-first : (end : CallOutcome) → StatusTellsCause plan given.left_out (chain_on plan tables given) behind new status.NoMemory end → CanEnd plan end → EndsRight (chain_on plan tables given) end
      → Writes plan (chain_on plan tables given) behind new end → Reports plan given.left_out (chain_on plan tables given) behind new end → WantsMemoryFirst plan old new
  wants-first no_input tells first right writes reports = absurd (let e = tells.0 in cc)
  wants-first no_output tells first right writes reports = absurd (let e = tells.0 in cc)
  wants-first (ran cut why late) tells first right writes reports = absurd (not-done (run_faults plan.general given.left_out (chain_on plan tables given) cut why) why late (no-want plan why preallocated first) tells.0)
  wants-first (unreported cut why) tells first right writes reports =
      inr (record {
        tables = tables;
        tables_are = tables_are;
        files = files;
        files_are = files_are;
        given = given;
        given_is = given_is;
        cut = cut;
        why = why;
        no_want = no-want plan why preallocated first;
        pure_or_fault = right;
        written = writes;
        reported = part-behind plan.general.live plan.general.bare (told_lines plan.general given.left_out (chain_on plan tables given) cut) plan old new reports;
      })
  wants-first out_of_memory tells first right writes reports =
      inl (reports, elim writes [ inl none ↦ inl none | inr empty ↦ inr empty ])

-- nothing is left where only files of tables were asked for
wants-at-once : (plan : Plan) (old new : DeskView) → new ≡ old → WantsMemoryFirst plan old new
wants-at-once plan old new same = inl (
  (ap (λ (d : DeskView). d.reported) same, ap (λ (d : DeskView). d.report_faults) same),
  inl (ap (λ (d : DeskView). d.outputs) same),
)

planned-first : (plan : Plan) (old new : DeskView) (answer : Status) → ArePreallocated plan.plugins → CallsPlan plan old new answer → answer ≡ status.NoMemory → WantsMemoryFirst plan old new
planned-first plan old new answer preallocated (inl runs) want =
    let t = runs.theorem in
    wants-first plan runs.tables t.files t.given old new runs.tables_are t.files_are t.given_is preallocated t.end
    (subst (λ (s : Status). StatusTellsCause plan t.given.left_out (chain_on plan runs.tables t.given) (tables_asked old plan) new s t.end) want t.status_tells_cause) t.can_end t.pure_or_fault t.written t.reported
planned-first plan old new answer preallocated (inr (inl ends)) want =
    absurd (ends-not-wanting (length ends.before + 1) ends.ends.2.end (sym want ∙ ends.ends.2.status_is))
planned-first plan old new answer preallocated (inr (inr wants)) want = inl (
  (ap (λ (d : DeskView). d.reported) wants.desk_is, ap (λ (d : DeskView). d.report_faults) wants.desk_is),
  inl (ap (λ (d : DeskView). d.outputs) wants.desk_is),
)

pub memory-first : (words : List (List ℕ)) (plan : Plan) (old new : DeskView) (answer : Status)
    → plan_of words ≡ Some plan → ArePreallocated plan.plugins → CallsTsp words old new answer → answer ≡ status.NoMemory → WantsMemoryFirst plan old new
memory-first words plan old new answer is preallocated calls want =
    elim (planned-call words plan old new answer is calls) [
      | inl planned ↦ planned-first plan old new answer preallocated planned want
      | inr wanting ↦ wants-at-once plan old new wanting.1
    ]
