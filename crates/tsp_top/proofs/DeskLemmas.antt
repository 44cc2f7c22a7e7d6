-- What opening, closing and reporting leave of a desk as it was.
use Rattle.std.proofs.Common.{◌≡◌, ℕ, List, ◌++◌, Bool, true, false, Option, refl, ap, sym, ◌∙◌, take}
use Rattle.chain_args.specs.declared.input_conf.InputConf.{InputConf}
use Rattle.chain_args.specs.declared.input_conf.InputConf.TheVariants as input
use Rattle.chain_args.specs.declared.output_conf.OutputConf.{OutputConf}
use Rattle.chain_args.specs.declared.output_conf.OutputConf.TheVariants as output
use Rattle.stage_run.specs.declared.input_part.InputPart.{InputPart}
use Rattle.stage_run.specs.declared.input_part.InputPart.TheVariants.{Stream, Nulls, Generated}
use Rattle.stage_run.specs.declared.output_part.OutputPart.{OutputPart}
use Rattle.stage_run.specs.declared.output_part.OutputPart.TheVariants as out
use Rattle.ts_outside.specs.declared.requests.Purpose.TheVariants.{Input, Output}
use Rattle.ts_outside.specs.declared.requests.Asked.{Asked}
use Rattle.ts_outside.specs.Source.{SourceView}
use Rattle.ts_outside.specs.Sink.{SinkView}
use Rattle.ts_outside.specs.Told.{grown}
use Rattle.ts_outside.specs.Desk.{DeskView, reports, report_failed}
use Rattle.ts_outside.proofs.Views.{grown-nil, grown-grown}
use Rattle.ts_outside.specs.Saying.{Says}
use Rattle.ts_outside.specs.Entries.{asked_for}
use Rattle.tsp_top.specs.PlannedChain.{input_name, output_name}
use Rattle.tsp_top.specs.Openings.{asked_input, asked_output, input_closed_as, output_closed_as}

-- two desks that differ at most in what was asked, and in counts of faults
pub record SameOutside (old new : DeskView) : Type 0 where
  pub files : new.files ≡ old.files
  pub outputs : new.outputs ≡ old.outputs
  pub reported : new.reported ≡ old.reported
  pub closed_in : new.closed_in ≡ old.closed_in
  pub report_faults : new.report_faults ≡ old.report_faults

-- and of two desks that have the same counts too
pub record SameCounts (old new : DeskView) : Type 0 where
  pub read_faults : new.read_faults ≡ old.read_faults
  pub write_faults : new.write_faults ≡ old.write_faults

pub same-asked_input : (d : DeskView) (conf : InputConf) → SameOutside d (asked_input d conf) × SameCounts d (asked_input d conf)
same-asked_input d (input.File name form resync) =
    (record { files = refl; outputs = refl; reported = refl; closed_in = refl; report_faults = refl }, record { read_faults = refl; write_faults = refl })
same-asked_input d (input.Null count) =
    (record { files = refl; outputs = refl; reported = refl; closed_in = refl; report_faults = refl }, record { read_faults = refl; write_faults = refl })
same-asked_input d (input.TestGen seed count) =
    (record { files = refl; outputs = refl; reported = refl; closed_in = refl; report_faults = refl }, record { read_faults = refl; write_faults = refl })

pub same-asked_output : (d : DeskView) (conf : OutputConf) → SameOutside d (asked_output d conf) × SameCounts d (asked_output d conf)
same-asked_output d (output.File name) =
    (record { files = refl; outputs = refl; reported = refl; closed_in = refl; report_faults = refl }, record { read_faults = refl; write_faults = refl })
same-asked_output d output.Drop =
    (record { files = refl; outputs = refl; reported = refl; closed_in = refl; report_faults = refl }, record { read_faults = refl; write_faults = refl })

pub asked-asked_input : (d : DeskView) (conf : InputConf) → (asked_input d conf).asked ≡ grown d.asked (asked_for Input (input_name conf) true)
asked-asked_input d (input.File name form resync) = refl
asked-asked_input d (input.Null count) = sym (grown-nil d.asked)
asked-asked_input d (input.TestGen seed count) = sym (grown-nil d.asked)

pub asked-asked_output : (d : DeskView) (conf : OutputConf) → (asked_output d conf).asked ≡ grown d.asked (asked_for Output (output_name conf) true)
asked-asked_output d (output.File name) = refl
asked-asked_output d output.Drop = sym (grown-nil d.asked)

-- both asked for, the input first
pub asked-both : (d : DeskView) (from : InputConf) (to : OutputConf)
    → (asked_output (asked_input d from) to).asked ≡ grown d.asked (asked_for Input (input_name from) true ++ asked_for Output (output_name to) true)
asked-both d from to =
    asked-asked_output (asked_input d from) to
    ∙ ap (λ (o : Option (List Asked)). grown o (asked_for Output (output_name to) true)) (asked-asked_input d from)
    ∙ grown-grown d.asked (asked_for Input (input_name from) true) (asked_for Output (output_name to) true)

pub same-both : (d : DeskView) (from : InputConf) (to : OutputConf) → SameOutside d (asked_output (asked_input d from) to) × SameCounts d (asked_output (asked_input d from) to)
same-both d from to =
    let a = same-asked_input d from in
    let b = same-asked_output (asked_input d from) to in (
      record {
        files = b.0.files ∙ a.0.files;
        outputs = b.0.outputs ∙ a.0.outputs;
        reported = b.0.reported ∙ a.0.reported;
        closed_in = b.0.closed_in ∙ a.0.closed_in;
        report_faults = b.0.report_faults ∙ a.0.report_faults;
      },
      record { read_faults = b.1.read_faults ∙ a.1.read_faults; write_faults = b.1.write_faults ∙ a.1.write_faults },
    )

-- closing the input leaves all but the closed inputs and the count of reading
pub record LeavesOpen (old new : DeskView) : Type 0 where
  pub files : new.files ≡ old.files
  pub reported : new.reported ≡ old.reported
  pub asked : new.asked ≡ old.asked
  pub report_faults : new.report_faults ≡ old.report_faults

pub leaves-input_closed : {S : Type 0} (inner : S → SourceView) (d : DeskView) (part : InputPart S) → LeavesOpen d (input_closed_as inner d part)
leaves-input_closed inner d (Stream source) = record { files = refl; reported = refl; asked = refl; report_faults = refl }
leaves-input_closed inner d (Nulls count) = record { files = refl; reported = refl; asked = refl; report_faults = refl }
leaves-input_closed inner d (Generated generator count) = record { files = refl; reported = refl; asked = refl; report_faults = refl }

pub outputs-input_closed : {S : Type 0} (inner : S → SourceView) (d : DeskView) (part : InputPart S) → (input_closed_as inner d part).outputs ≡ d.outputs
outputs-input_closed inner d (Stream source) = refl
outputs-input_closed inner d (Nulls count) = refl
outputs-input_closed inner d (Generated generator count) = refl

pub write_faults-input_closed : {S : Type 0} (inner : S → SourceView) (d : DeskView) (part : InputPart S) → (input_closed_as inner d part).write_faults ≡ d.write_faults
write_faults-input_closed inner d (Stream source) = refl
write_faults-input_closed inner d (Nulls count) = refl
write_faults-input_closed inner d (Generated generator count) = refl

pub leaves-output_closed : {K : Type 0} (seen : K → SinkView) (d : DeskView) (part : OutputPart K) (failed : Bool) → LeavesOpen d (output_closed_as seen d part failed)
leaves-output_closed seen d (out.Stream sink) failed = record { files = refl; reported = refl; asked = refl; report_faults = refl }
leaves-output_closed seen d out.Discard failed = record { files = refl; reported = refl; asked = refl; report_faults = refl }

pub read_faults-output_closed : {K : Type 0} (seen : K → SinkView) (d : DeskView) (part : OutputPart K) (failed : Bool) → (output_closed_as seen d part failed).read_faults ≡ d.read_faults
read_faults-output_closed seen d (out.Stream sink) failed = refl
read_faults-output_closed seen d out.Discard failed = refl

pub closed_in-output_closed : {K : Type 0} (seen : K → SinkView) (d : DeskView) (part : OutputPart K) (failed : Bool) → (output_closed_as seen d part failed).closed_in ≡ d.closed_in
closed_in-output_closed seen d (out.Stream sink) failed = refl
closed_in-output_closed seen d out.Discard failed = refl

-- a report leaves all but what was reported and its count
pub record LeavesAll (old new : DeskView) : Type 0 where
  pub files : new.files ≡ old.files
  pub outputs : new.outputs ≡ old.outputs
  pub asked : new.asked ≡ old.asked
  pub closed_in : new.closed_in ≡ old.closed_in
  pub read_faults : new.read_faults ≡ old.read_faults
  pub write_faults : new.write_faults ≡ old.write_faults

leaves-reports : (d : DeskView) (text : List ℕ) → LeavesAll d (reports d text)
leaves-reports d text = record { files = refl; outputs = refl; asked = refl; closed_in = refl; read_faults = refl; write_faults = refl }

leaves-failed : (d : DeskView) (text : List ℕ) → LeavesAll d (report_failed (reports d text))
leaves-failed d text = record { files = refl; outputs = refl; asked = refl; closed_in = refl; read_faults = refl; write_faults = refl }

leaves-same : (old new made : DeskView) → new ≡ made → LeavesAll old made → LeavesAll old new
leaves-same old new made e leaves = record {
  files = ap (λ (d : DeskView). d.files) e ∙ leaves.files;
  outputs = ap (λ (d : DeskView). d.outputs) e ∙ leaves.outputs;
  asked = ap (λ (d : DeskView). d.asked) e ∙ leaves.asked;
  closed_in = ap (λ (d : DeskView). d.closed_in) e ∙ leaves.closed_in;
  read_faults = ap (λ (d : DeskView). d.read_faults) e ∙ leaves.read_faults;
  write_faults = ap (λ (d : DeskView). d.write_faults) e ∙ leaves.write_faults;
}

pub leaves-all : (old new : DeskView) → new ≡ old → LeavesAll old new
leaves-all old new e =
    leaves-same old new old e (record { files = refl; outputs = refl; asked = refl; closed_in = refl; read_faults = refl; write_faults = refl })

pub leaves-says : (old new : DeskView) (text : List ℕ) (failed : Bool) → Says old new text failed → LeavesAll old new
leaves-says old new text false says = leaves-same old new (reports old text) says (leaves-reports old text)
leaves-says old new text true says = leaves-same old new (report_failed (reports old (take says.0 text))) says.2 (leaves-failed old (take says.0 text))
