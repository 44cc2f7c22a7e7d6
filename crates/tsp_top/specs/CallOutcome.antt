-- How a call of `tsp` ends, and its status. This project's own rule.
use Rattle.std.specs.Prelude.{◌≡◌, ◌⊎◌, ℕ, List, Bool, true, false, if◌then◌else◌, Option, IsSome, ◌&&◌, ◌-◌, ◌^◌, min}
use Rattle.chain_model.specs.declared.input_end.InputEnd.{InputEnd}
use Rattle.chain_model.specs.declared.input_end.InputEnd.TheVariants as input
use Rattle.chain_model.specs.declared.cause.Cause.{Cause}
use Rattle.chain_model.specs.declared.cause.Cause.TheVariants as cause
use Rattle.chain_args.specs.declared.general_conf.GeneralConf.{GeneralConf}
use Rattle.chain_args.specs.declared.plan_type.Plan.{Plan}
use Rattle.ts_outside.specs.Count.{HasCause}
use Rattle.ts_outside.specs.Desk.{DeskView}
use Rattle.chain_model.specs.PureRun.{Chain}
use Rattle.tsp_top.specs.Faults.{run_faults}
use Rattle.tsp_top.specs.LeftOut.{LeftOut}
use Rattle.tsp_top.specs.PlannedChain.{output_name}
use Rattle.tsp_top.specs.declared.status.Status.{Status}
use Rattle.tsp_top.specs.declared.status.Status.TheVariants.{Done, NoMemory, ReadFault, WriteFault, Sync, Refused, TooLong, InputEnded, FaultFound}

-- how a call ended whose words have a plan
pub data CallOutcome : Type 0 where
  -- the input was not opened
  no_input : CallOutcome
  -- the output was not opened
  no_output : CallOutcome
  -- the chain ran and was cut at `cut` for this cause; `late` is whether its report or the closing of its output failed
  ran : (cut : ℕ) → (cause : Cause) → (late : Bool) → CallOutcome
  -- the chain ran and was cut so, but there was no memory for its report
  unreported : (cut : ℕ) → (cause : Cause) → CallOutcome
  -- memory ran out before the chain ran
  out_of_memory : CallOutcome

-- the status of an input's end
abbrev pub status_of_input : InputEnd → Status
status_of_input (input.End left) = Done
status_of_input (input.Sync packet) = Sync packet
status_of_input input.ReadFault = ReadFault
status_of_input input.TooLong = TooLong

-- the status of a cause; a plugin's number has 32 bits there, and no chain has so many plugins
abbrev pub status_of : Cause → Status
status_of (cause.Input how) = status_of_input how
status_of cause.Joint = Done
status_of (cause.Until j) = Done
status_of (cause.Stop j) = Done
status_of (cause.Refuse j reason) = Refused (min j (2 ^ 32 - 1)) reason
status_of cause.WriteFault = WriteFault
status_of (cause.NoMemory k) = NoMemory

-- a status, or another one in the place of `Done`
abbrev pub in_place_of_done : Status → Status → Status
in_place_of_done other Done = other
in_place_of_done other status = status

-- the status where a report or the closing of the output failed: that of the cause, unless it is `Done`
abbrev pub status_when_late : Status → Status
status_when_late status = in_place_of_done WriteFault status

-- an input's plain end, with or without bytes behind its last packet
abbrev pub is_plain_input : InputEnd → Bool
is_plain_input (input.End left) = true
is_plain_input _ = false

-- a run that ended there
abbrev pub is_plain_end : Cause → Bool
is_plain_end (cause.Input how) = is_plain_input how
is_plain_end _ = false

-- what a run is that is `Done` by its cause, its report and its closings, where a plugin has a fault or none has:
-- `--endless` wants an input without an end, and then `--fail-on-faults` plugins without a fault
abbrev pub done_status : GeneralConf → Bool → Cause → Status
done_status general faulty why =
    if general.endless && is_plain_end why then InputEnded
    else (if general.fail_on_faults && faulty then FaultFound else Done)

-- the status where the report and the closings went well
abbrev pub status_in_time : GeneralConf → Bool → Cause → Status
status_in_time general faulty why = in_place_of_done (done_status general faulty why) (status_of why)

-- the status of a run that ended by this cause; `late` is whether its report or the closing of its output failed
abbrev pub run_status : GeneralConf → Bool → Cause → Bool → Status
run_status general faulty why late = if late then status_when_late (status_of why) else status_in_time general faulty why

-- a fault of reading or writing is a cause only where its count rose
abbrev pub FaultRose : DeskView → DeskView → Cause → Type 0
FaultRose old new (cause.Input input.ReadFault) = HasCause old.read_faults new.read_faults
FaultRose old new cause.WriteFault = HasCause old.write_faults new.write_faults
FaultRose old new _ = Unit {0}

-- what failed late, or that nothing did; the closing of an output that has a name, or a report
abbrev pub LateRose : Option (List ℕ) → DeskView → DeskView → Cause → Bool → Type 0
LateRose output old new why true =
    (IsSome output × HasCause old.write_faults new.write_faults)
    ⊎ HasCause old.report_faults new.report_faults
LateRose output old new why false =
    (status_of why ≡ Done → new.write_faults ≡ old.write_faults) × (new.report_faults ≡ old.report_faults)

-- the status says how the call ended, and it is that of a fault only where the count of the fault rose
abbrev pub StatusTellsCause : Plan → Option LeftOut → Chain → DeskView → DeskView → Status → CallOutcome → Type 0
StatusTellsCause plan left_out chain old new status no_input =
    (status ≡ ReadFault) × HasCause old.read_faults new.read_faults
StatusTellsCause plan left_out chain old new status no_output =
    (status ≡ WriteFault) × HasCause old.write_faults new.write_faults
StatusTellsCause plan left_out chain old new status (ran cut why late) =
    (status ≡ run_status plan.general (run_faults plan.general left_out chain cut why) why late)
    × FaultRose old new why × LateRose (output_name plan.output) old new why late
StatusTellsCause plan left_out chain old new status (unreported cut why) = (status ≡ NoMemory) × FaultRose old new why
StatusTellsCause plan left_out chain old new status out_of_memory = status ≡ NoMemory
