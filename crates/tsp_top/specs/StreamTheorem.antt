-- The stream theorem: what a call of `tsp` reads, writes, reports, opens and returns. This project's own rule.
use Rattle.std.specs.Prelude.{◌≡◌, ◌⊎◌, ℕ, List, [], ◌∷◌, ◌++◌, take, drop, codes, Bool, true, false, Option, IfSome}
use Rattle.chain_model.specs.Prefix.{IsPrefix}
use Rattle.chain_model.specs.StageLists.{end_list}
use Rattle.chain_model.specs.Cut.{IsValidFault, IsPureClose}
use Rattle.chain_model.specs.PureRun.{Chain, chain_rules, chain_cut, written_to}
use Rattle.chain_model.specs.declared.cause.Cause.{Cause}
use Rattle.chain_model.specs.declared.cause.Cause.TheVariants.{WriteFault}
use Rattle.chain_args.specs.declared.plan_type.Plan.{Plan}
use Rattle.ts_packet.specs.declared.cell.Cell.{Cell}
use Rattle.ts_outside.specs.Told.{grown}
use Rattle.ts_outside.specs.declared.requests.Purpose.TheVariants.{Input, Output}
use Rattle.ts_outside.specs.Desk.{DeskView}
use Rattle.ts_outside.specs.Saying.{ReportsText, ReportsNothing}
use Rattle.ts_outside.specs.Entries.{asked_for, outputs_with}
use Rattle.chain_model.specs.Written.{IsPartOfFirst}
use Rattle.tsp_top.specs.CallOutcome.{CallOutcome, no_input, no_output, ran, unreported, out_of_memory, StatusTellsCause}
use Rattle.tsp_top.specs.CanEnd.{CanEnd}
use Rattle.tsp_top.specs.LeftOut.{LeftOut}
use Rattle.tsp_top.specs.PlannedChain.{GivenInput, chain_on, GivesInput, input_name, output_name}
use Rattle.chain_live.specs.LiveReports.{LiveLine}
use Rattle.tsp_top.specs.Printed.{live_text, reported_as, told_lines}
use Rattle.tsp_top.specs.Readings.{ReadsNothing, ReadsTo}
use Rattle.tsp_top.specs.declared.status.Status.{Status}

-- cut and cause are those of the run without faults, or a fault ended the chain where it may
abbrev pub IsPureOrFault : Chain → ℕ → Cause → Type 0
IsPureOrFault chain cut why =
    IsPureClose (chain_rules chain) chain.input chain.users cut why
    ⊎ IsValidFault (chain_rules chain) chain.input chain.users cut why

abbrev pub EndsRight : Chain → CallOutcome → Type 0
EndsRight chain (ran cut why late) = IsPureOrFault chain cut why
EndsRight chain (unreported cut why) = IsPureOrFault chain cut why
EndsRight chain _ = Unit {0}

-- only after a failed write, a part of the packet after the cut was taken too
abbrev pub IsCutPart : List Cell → ℕ → Cause → List ℕ → Type 0
IsCutPart cells cut WriteFault part = IsPartOfFirst (drop cut cells) part
IsCutPart cells cut _ part = part ≡ []

-- the bytes of the cells before the cut, and only after a failed write a part of the next packet
abbrev pub IsWrittenTo : Chain → ℕ → Cause → List ℕ → Type 0
IsWrittenTo chain cut why bytes =
    (part : List ℕ) × (bytes ≡ written_to chain cut ++ part)
    × IsCutPart (end_list (chain_rules chain) chain.input).cells cut why part

-- an output was closed with exactly these bytes, which are a first part of what the run without faults writes
abbrev pub WritesTo : Plan → Chain → DeskView → DeskView → ℕ → Cause → Type 0
WritesTo plan chain old new cut why =
    (bytes : List ℕ) × (new.outputs ≡ outputs_with (output_name plan.output) old.outputs bytes)
    × IsWrittenTo chain cut why bytes
    × IsPrefix bytes (written_to chain (chain_cut chain))

-- what is written; nothing before the chain ran
abbrev pub Writes : Plan → Chain → DeskView → DeskView → CallOutcome → Type 0
Writes plan chain old new no_input = new.outputs ≡ old.outputs
Writes plan chain old new no_output = new.outputs ≡ old.outputs
Writes plan chain old new (ran cut why late) = WritesTo plan chain old new cut why
Writes plan chain old new (unreported cut why) = WritesTo plan chain old new cut why
Writes plan chain old new out_of_memory =
    (new.outputs ≡ old.outputs) ⊎ (new.outputs ≡ outputs_with (output_name plan.output) old.outputs [])

-- what is read of the input; nothing before the chain ran
abbrev pub Reads : Plan → List (List ℕ × List ℕ) → DeskView → DeskView → CallOutcome → Type 0
Reads plan files old new no_input = new.closed_in ≡ old.closed_in
Reads plan files old new no_output = ReadsNothing plan.input files old new
Reads plan files old new (ran cut why late) = ReadsTo plan.general plan.input files old new cut why
Reads plan files old new (unreported cut why) = ReadsTo plan.general plan.input files old new cut why
Reads plan files old new out_of_memory = ReadsNothing plan.input files old new

-- the first of these lines are reported, or a first part of their text where a report failed
pub record ReportsFirst (bare : Bool) (lines : List LiveLine) (old new : DeskView) : Type 0 where
  pub first : List LiveLine
  pub begins : IsPrefix first lines
  pub reported : ReportsText old new (live_text bare first)

-- what is reported where there was no memory for the whole report: nothing, or with `--live` the first of these lines
abbrev pub ReportsPart : Bool → Bool → List LiveLine → DeskView → DeskView → Type 0
ReportsPart false bare lines old new = ReportsNothing old new
ReportsPart true bare lines old new = ReportsFirst bare lines old new

-- what is reported
abbrev pub Reports : Plan → Option LeftOut → Chain → DeskView → DeskView → CallOutcome → Type 0
Reports plan left_out chain old new no_input = ReportsText old new (codes "tsp: cannot open input" ++ 10 ∷ [])
Reports plan left_out chain old new no_output = ReportsText old new (codes "tsp: cannot open output" ++ 10 ∷ [])
Reports plan left_out chain old new (ran cut why late) = ReportsText old new (reported_as plan.general left_out chain cut why)
Reports plan left_out chain old new (unreported cut why) =
    ReportsPart plan.general.live plan.general.bare (told_lines plan.general left_out chain cut) old new
Reports plan left_out chain old new out_of_memory = ReportsNothing old new

-- what is opened: first the input, then the output, and each went well but the last where the call says so
abbrev pub Opens : Plan → DeskView → DeskView → CallOutcome → Type 0
Opens plan old new no_input = new.asked ≡ grown old.asked (asked_for Input (input_name plan.input) false)
Opens plan old new no_output =
    new.asked ≡ grown old.asked
    (asked_for Input (input_name plan.input) true ++ asked_for Output (output_name plan.output) false)
Opens plan old new (ran cut why late) =
    new.asked ≡ grown old.asked
    (asked_for Input (input_name plan.input) true ++ asked_for Output (output_name plan.output) true)
Opens plan old new (unreported cut why) =
    new.asked ≡ grown old.asked
    (asked_for Input (input_name plan.input) true ++ asked_for Output (output_name plan.output) true)
Opens plan old new out_of_memory =
    (n : ℕ) × (new.asked ≡ grown old.asked
    (take n (asked_for Input (input_name plan.input) true
    ++ asked_for Output (output_name plan.output) true)))

-- a call of `tsp` whose words have this plan and whose plugins have these tables, from when their files were read
pub record StreamTheorem (plan : Plan) (tables : List (List (List ℕ))) (old new : DeskView) (status : Status) : Type 0 where
  pub end : CallOutcome
  -- the files by name: those of the desk where they are known, else some
  pub files : List (List ℕ × List ℕ)
  pub files_are : IfSome old.files (λ told. files ≡ told)
  -- what the input gives
  pub given : GivenInput
  pub given_is : GivesInput plan.input old.files files given
  -- the status is that of the cause, as the general options ask
  pub status_tells_cause : StatusTellsCause plan given.left_out (chain_on plan tables given) old new status end
  -- it is an end that this plan can have
  pub can_end : CanEnd plan end
  -- a cause that is no fault is the cause of the run without faults, at its cut
  pub pure_or_fault : EndsRight (chain_on plan tables given) end
  -- what is read
  pub reads : Reads plan files old new end
  -- what is written
  pub written : Writes plan (chain_on plan tables given) old new end
  -- what is reported, as the general options ask
  pub reported : Reports plan given.left_out (chain_on plan tables given) old new end
  -- what is opened, in which order
  pub opened : Opens plan old new end
  pub files_stay : new.files ≡ old.files
