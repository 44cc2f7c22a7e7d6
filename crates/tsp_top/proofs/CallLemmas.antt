-- The stream theorem of calls that ended before the chain ran.
use Rattle.std.proofs.Common.{◌≡◌, ℕ, ◌≤◌, List, [], ◌∷◌, ◌++◌, Bool, true, false, Option, Result, Ok, Err, MatchResult, refl, ap, sym, ◌∙◌, subst, take, length, codes, inl, arith}
use Rattle.std.specs.Prelude.{IsSome}
use Rattle.std.proofs.lemmas.List.{take_all, take-append-le}
use Rattle.ts_packet.specs.declared.cell.Cell.{Cell}
use Rattle.chain_args.specs.declared.plan_type.Plan.{Plan}
use Rattle.chain_args.specs.declared.input_conf.InputConf.{InputConf}
use Rattle.chain_args.specs.declared.input_conf.InputConf.TheVariants as input
use Rattle.chain_args.specs.declared.output_conf.OutputConf.{OutputConf}
use Rattle.chain_args.specs.declared.output_conf.OutputConf.TheVariants as output
use Rattle.stage_run.specs.declared.input_part.InputPart.{InputPart}
use Rattle.ts_outside.specs.declared.requests.Purpose.TheVariants.{Input, Output}
use Rattle.ts_outside.specs.declared.requests.Asked.{Asked}
use Rattle.ts_outside.specs.declared.faults.OpenFault.{OpenFault}
use Rattle.ts_outside.specs.declared.faults.OpenFault.TheVariants as fault
use Rattle.ts_outside.specs.OpenFault.{MatchOpen}
use Rattle.ts_outside.specs.Count.{HasCause}
use Rattle.ts_outside.specs.Source.{SourceView}
use Rattle.ts_outside.specs.Told.{grown}
use Rattle.ts_outside.specs.Desk.{DeskView}
use Rattle.ts_outside.proofs.Views.{HasCause-raised, grown-grown}
use Rattle.ts_outside.specs.Saying.{Says}
use Rattle.ts_outside.specs.Entries.{asked_for}
use Rattle.chain_run.specs.Fresh.{AreFresh}
use Rattle.tsp_top.specs.PlannedChain.{input_name, output_name}
use Rattle.tsp_top.specs.Openings.{asked_input, asked_input_in_vain, asked_output_in_vain, NamesInput, NamesOutput, OpensInput, input_closed_as}
use Rattle.tsp_top.specs.CallOutcome.{no_input, no_output, out_of_memory}
use Rattle.tsp_top.specs.StreamTheorem.{StreamTheorem}
use Rattle.tsp_top.specs.TspCall.{IsOverBefore}
use Rattle.tsp_top.specs.declared.status.Status.{Status}
use Rattle.tsp_top.specs.declared.status.Status.TheVariants.{NoMemory, ReadFault, WriteFault}
use Rattle.tsp_top.proofs.DeskLemmas.{SameOutside, same-asked_input, asked-asked_input, leaves-input_closed, outputs-input_closed, write_faults-input_closed, leaves-says}
use Rattle.tsp_top.proofs.SourceLemmas.{reads-nothing, some-files, some-input}
use Rattle.tsp_top.proofs.StreamLemmas.{reports-text}

-- a failed opening changes what was asked and one count of faults
in-vain-input : (d : DeskView) (conf : InputConf) → NamesInput conf
    → SameOutside d (asked_input_in_vain d conf) × HasCause d.read_faults (asked_input_in_vain d conf).read_faults
    × ((asked_input_in_vain d conf).asked ≡ grown d.asked (asked_for Input (input_name conf) false))
in-vain-input d (input.File name form resync) named =
    (record { files = refl; outputs = refl; reported = refl; closed_in = refl; report_faults = refl }, HasCause-raised d.read_faults, refl)
in-vain-input d (input.Null count) named = absurd named
in-vain-input d (input.TestGen seed count) named = absurd named

in-vain-output : (d : DeskView) (conf : OutputConf) → NamesOutput conf
    → SameOutside d (asked_output_in_vain d conf) × HasCause d.write_faults (asked_output_in_vain d conf).write_faults
    × ((asked_output_in_vain d conf).asked ≡ grown d.asked (asked_for Output (output_name conf) false))
in-vain-output d (output.File name) named =
    (record { files = refl; outputs = refl; reported = refl; closed_in = refl; report_faults = refl }, HasCause-raised d.write_faults, refl)
in-vain-output d output.Drop named = absurd named

-- what is opened has a name
input-named : (conf : InputConf) → NamesInput conf → IsSome (input_name conf)
input-named (input.File name form resync) named = refl
input-named (input.Null count) named = absurd named
input-named (input.TestGen seed count) named = absurd named

output-named : (conf : OutputConf) → NamesOutput conf → IsSome (output_name conf)
output-named (output.File name) named = refl
output-named output.Drop named = absurd named

-- the input was not opened
pub no-input-theorem : (plan : Plan) (tables : List (List (List ℕ))) (old made new : DeskView) (failed : Bool) → NamesInput plan.input → made ≡ asked_input_in_vain old plan.input
    → Says made new (codes "tsp: cannot open input" ++ 10 ∷ []) failed → StreamTheorem plan tables old new ReadFault
no-input-theorem plan tables old made new failed named asked says =
    let text : List ℕ = codes "tsp: cannot open input" ++ 10 ∷ [] in
    let vain : DeskView = asked_input_in_vain old plan.input in
    let said : Says vain new text failed = subst (λ (d : DeskView). Says d new text failed) asked says in
    let v = in-vain-input old plan.input named in
    let l = leaves-says vain new text failed said in
    let files = some-files old in
    let given = some-input plan.input old.files files.0 in
    record {
      end = no_input;
      status_tells_cause = (refl, subst (λ (n : ℕ). HasCause old.read_faults n) (sym l.read_faults) v.1);
      files = files.0;
      files_are = files.1;
      given = given.0;
      given_is = given.1;
      can_end = input-named plan.input named;
      pure_or_fault = tt;
      reads = l.closed_in ∙ v.0.closed_in;
      written = l.outputs ∙ v.0.outputs;
      reported = reports-text old vain new text failed v.0.reported v.0.report_faults said;
      opened = l.asked ∙ v.2;
      files_stay = l.files ∙ v.0.files;
    }

-- the output was not opened, and the input was closed
pub no-output-theorem : {S : Type 0} (seen inner : S → SourceView) (plan : Plan) (tables : List (List (List ℕ))) (old made new : DeskView) (part : InputPart S) (failed : Bool) → OpensInput seen inner old plan.input part → NamesOutput plan.output
    → made ≡ input_closed_as inner (asked_output_in_vain (asked_input old plan.input) plan.output) part
    → Says made new (codes "tsp: cannot open output" ++ 10 ∷ []) failed → StreamTheorem plan tables old new WriteFault
no-output-theorem seen inner plan tables old made new part failed opens named asked says =
    let text : List ℕ = codes "tsp: cannot open output" ++ 10 ∷ [] in
    let first : DeskView = asked_input old plan.input in
    let vain : DeskView = asked_output_in_vain first plan.output in
    let closed : DeskView = input_closed_as inner vain part in
    let said : Says closed new text failed = subst (λ (d : DeskView). Says d new text failed) asked says in
    let a = same-asked_input old plan.input in
    let v = in-vain-output first plan.output named in
    let c = leaves-input_closed inner vain part in
    let l = leaves-says closed new text failed said in
    let files = some-files old in
    let given = some-input plan.input old.files files.0 in
    record {
      end = no_output;
      status_tells_cause = (
        refl,
        subst (λ (n : ℕ). HasCause n new.write_faults) a.1.write_faults
            (subst (λ (n : ℕ). HasCause first.write_faults n) (sym (l.write_faults ∙ write_faults-input_closed inner vain part)) v.1),
      );
      files = files.0;
      files_are = files.1;
      given = given.0;
      given_is = given.1;
      can_end = output-named plan.output named;
      pure_or_fault = tt;
      reads = reads-nothing seen inner old vain new files.0 plan.input part files.1 opens (v.0.closed_in ∙ a.0.closed_in) l.closed_in;
      written = l.outputs ∙ outputs-input_closed inner vain part ∙ v.0.outputs ∙ a.0.outputs;
      reported = reports-text old closed new text failed (c.reported ∙ v.0.reported ∙ a.0.reported) (c.report_faults ∙ v.0.report_faults ∙ a.0.report_faults) said;
      opened = l.asked ∙ c.asked ∙ v.2
          ∙ ap (λ (o : Option (List Asked)). grown o (asked_for Output (output_name plan.output) false)) (asked-asked_input old plan.input)
          ∙ grown-grown old.asked (asked_for Input (input_name plan.input) true) (asked_for Output (output_name plan.output) false);
      files_stay = l.files ∙ c.files ∙ v.0.files ∙ a.0.files;
    }

take-first : (xs ys : List Asked) → take (length xs) (xs ++ ys) ≡ xs
take-first xs ys =
    let le : length xs ≤ length xs = omega arith in
    take-append-le (length xs) xs ys le ∙ take_all (length xs) xs le

-- there was no memory for the output, and the input was closed
pub no-memory-theorem : {S : Type 0} (seen inner : S → SourceView) (plan : Plan) (tables : List (List (List ℕ))) (old new : DeskView) (part : InputPart S)
    → OpensInput seen inner old plan.input part → new ≡ input_closed_as inner (asked_input old plan.input) part → StreamTheorem plan tables old new NoMemory
no-memory-theorem seen inner plan tables old new part opens is =
    let first : DeskView = asked_input old plan.input in
    let one : List Asked = asked_for Input (input_name plan.input) true in
    let two : List Asked = asked_for Output (output_name plan.output) true in
    let a = same-asked_input old plan.input in
    let c = leaves-input_closed inner first part in
    let reported : new.reported ≡ old.reported = ap (λ (d : DeskView). d.reported) is ∙ c.reported ∙ a.0.reported in
    let report_faults : new.report_faults ≡ old.report_faults = ap (λ (d : DeskView). d.report_faults) is ∙ c.report_faults ∙ a.0.report_faults in
    let files = some-files old in
    let given = some-input plan.input old.files files.0 in
    record {
      end = out_of_memory;
      status_tells_cause = refl;
      files = files.0;
      files_are = files.1;
      given = given.0;
      given_is = given.1;
      can_end = tt;
      pure_or_fault = tt;
      reads = reads-nothing seen inner old first new files.0 plan.input part files.1 opens a.0.closed_in (ap (λ (d : DeskView). d.closed_in) is);
      written = inl (ap (λ (d : DeskView). d.outputs) is ∙ outputs-input_closed inner first part ∙ a.0.outputs);
      reported = (reported, report_faults);
      opened = (
        length one,
        ap (λ (d : DeskView). d.asked) is ∙ c.asked ∙ asked-asked_input old plan.input
            ∙ ap (λ (l : List Asked). grown old.asked l) (sym (take-first one two)),
      );
      files_stay = ap (λ (d : DeskView). d.files) is ∙ c.files ∙ a.0.files;
    }

-- one more plugin that met no cell
pub fresh_push : {P : Type 0} (stands : P → List Cell → ℕ → Type 0) (plugins : List P) (plugin : P)
    → AreFresh stands plugins → stands plugin [] 0 → AreFresh stands (plugins ++ plugin ∷ [])
fresh_push stands [] plugin fresh one = (one, tt)
fresh_push stands (p ∷ plugins) plugin fresh one = (fresh.0, fresh_push stands plugins plugin fresh.1 one)

-- what is said of an opening that failed, and of one without memory
pub open-failed : {T : Type 0} (P : T → Type 0) (Q R : Type 0) (e : OpenFault) → e ≡ fault.Failed → MatchOpen (Err e) P Q R → Q
open-failed P Q R e is h = subst (λ (f : OpenFault). MatchOpen (Err f) P Q R) is h

pub open-no-memory : {T : Type 0} (P : T → Type 0) (Q R : Type 0) (e : OpenFault) → e ≡ fault.NoMemory → MatchOpen (Err e) P Q R → R
open-no-memory P Q R e is h = subst (λ (f : OpenFault). MatchOpen (Err f) P Q R) is h

-- the stream theorem of a call that is over before its run
pub over-before : {X : Type 0} (P : X → Type 0) (r : Result X Status) (plan : Plan) (tables : List (List (List ℕ))) (old new : DeskView)
    → MatchResult r P (λ status. StreamTheorem plan tables old new status) → MatchResult r P (λ status. IsOverBefore plan tables old new status)
over-before P (Ok x) plan tables old new h = h
over-before P (Err status) plan tables old new h = inl h
