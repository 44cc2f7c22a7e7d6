-- The headline: a call that meets no fault and does not run out of memory. This project's own rule.
use Rattle.std.specs.Prelude.{◌≡◌, ◌⊎◌, ℕ, List, [], ◌∷◌, Option, None, Some, IfSome}
use Rattle.chain_model.specs.declared.input_end.InputEnd.TheVariants.{End}
use Rattle.chain_model.specs.declared.cause.Cause.{Cause}
use Rattle.chain_model.specs.declared.cause.Cause.TheVariants.{Input, Joint, Until, Stop}
use Rattle.chain_model.specs.PureRun.{Chain, chain_cause, chain_cut, pure_run}
use Rattle.plugin_settings.specs.declared.plugin_item.PluginItem.{PluginItem}
use Rattle.plugin_settings.specs.Plugins.{table_file_of}
use Rattle.chain_args.specs.declared.input_conf.InputConf.{InputConf}
use Rattle.chain_args.specs.declared.input_conf.InputConf.TheVariants as input
use Rattle.chain_args.specs.declared.plan_type.Plan.{Plan}
use Rattle.ts_outside.specs.Told.{grown}
use Rattle.ts_outside.specs.Desk.{DeskView}
use Rattle.ts_outside.specs.Entries.{outputs_with}
use Rattle.chain_args.specs.declared.general_conf.GeneralConf.{GeneralConf}
use Rattle.tsp_top.specs.CallOutcome.{done_status, status_in_time}
use Rattle.tsp_top.specs.PlannedChain.{GivenInput, chain_of, chain_on, input_of, GivesInput, output_name}
use Rattle.tsp_top.specs.Faults.{run_faults}
use Rattle.tsp_top.specs.LeftOut.{LeftOut}
use Rattle.tsp_top.specs.PlannedTables.{AreTables}
use Rattle.tsp_top.specs.Printed.{reported_as}
use Rattle.tsp_top.specs.TableEnds.{EndsAtTables}
use Rattle.tsp_top.specs.declared.status.Status.{Status}
use Rattle.tsp_top.specs.declared.status.Status.TheVariants.{NoMemory}

-- the files of the desk are known to be these, where the input is one
abbrev pub TellsInput : InputConf → DeskView → List (List ℕ × List ℕ) → Type 0
TellsInput (input.File name form resync) desk files = desk.files ≡ Some files
TellsInput (input.Null count) desk files = Unit {0}
TellsInput (input.TestGen seed count) desk files = Unit {0}

-- the same where a plugin's settings name a file
abbrev pub TellsTable : Option (List ℕ) → DeskView → List (List ℕ × List ℕ) → Type 0
TellsTable None desk files = Unit {0}
TellsTable (Some name) desk files = desk.files ≡ Some files

abbrev pub TellsTables : List PluginItem → DeskView → List (List ℕ × List ℕ) → Type 0
TellsTables [] desk files = Unit {0}
TellsTables (item ∷ items) desk files = TellsTable (table_file_of item.conf) desk files × TellsTables items desk files

-- the status of the run without faults outside
abbrev pub pure_status : GeneralConf → Option LeftOut → Chain → Status
pure_status general left_out chain =
    status_in_time general (run_faults general left_out chain (chain_cut chain) (chain_cause chain)) (chain_cause chain)

-- the call wrote, reported and returned what applying the plugins one after another to the whole list of packets that its
-- input gives gives
pub record IsPureCall (plan : Plan) (tables : List (List (List ℕ))) (given : GivenInput)
    (old new : DeskView) (status : Status) : Type 0 where
  pub written : new.outputs
      ≡ outputs_with (output_name plan.output) old.outputs (pure_run (chain_on plan tables given)).written
  pub reported : new.reported
      ≡ grown old.reported (reported_as plan.general given.left_out (chain_on plan tables given) (chain_cut (chain_on plan tables given)) (chain_cause (chain_on plan tables given)))
  pub answered : status ≡ pure_status plan.general given.left_out (chain_on plan tables given)

-- the call did so, or memory ran out
abbrev pub IsPureOrWants : Plan → List (List (List ℕ)) → List (List ℕ × List ℕ)
    → DeskView → DeskView → Status → Type 0
IsPureOrWants plan tables files old new status =
    (status ≡ NoMemory) ⊎ IsPureCall plan tables (input_of plan.input files) old new status

-- over any desk: the call did so for the tables and the files of the desk where they are known, and for some where they are not
pub record IsPureOfSome (plan : Plan) (old new : DeskView) (status : Status) : Type 0 where
  pub tables : List (List (List ℕ))
  pub tables_are : AreTables old plan.plugins tables
  pub files : List (List ℕ × List ℕ)
  pub files_are : IfSome old.files (λ told. files ≡ told)
  pub given : GivenInput
  pub given_is : GivesInput plan.input old.files files given
  pub pure : IsPureCall plan tables given old new status

-- the call did so, or memory ran out, or a file that was read has no sections
abbrev pub IsPureOrEnds : Plan → DeskView → DeskView → Status → Type 0
IsPureOrEnds plan old new status =
    (status ≡ NoMemory) ⊎ (IsPureOfSome plan old new status ⊎ EndsAtTables plan.plugins old new status)

-- an end that is no fault, no refusal and no lost sync: the input's plain end, joint termination, `until` or a stop
abbrev pub EndsWell : Cause → Type 0
EndsWell (Input (End left)) = Unit {0}
EndsWell Joint = Unit {0}
EndsWell (Until j) = Unit {0}
EndsWell (Stop j) = Unit {0}
EndsWell _ = ⊥

-- the status of a run that is done, or memory ran out
abbrev pub IsDoneOrWants : Plan → List (List (List ℕ)) → List (List ℕ × List ℕ) → Status → Type 0
IsDoneOrWants plan tables files status =
    (status ≡ done_status plan.general
    (run_faults plan.general (input_of plan.input files).left_out (chain_of plan tables files)
    (chain_cut (chain_of plan tables files)) (chain_cause (chain_of plan tables files)))
    (chain_cause (chain_of plan tables files))) ⊎ (status ≡ NoMemory)

-- two plans differ in the three sizes, in their threads and in what is to become of their ends at most
pub record SameButSizes (one other : Plan) : Type 0 where
  pub input : other.input ≡ one.input
  pub plugins : other.plugins ≡ one.plugins
  pub output : other.output ≡ one.output
  pub start : other.general.add_start_stuffing ≡ one.general.add_start_stuffing
  pub stop : other.general.add_stop_stuffing ≡ one.general.add_stop_stuffing
  pub between : other.general.add_input_stuffing ≡ one.general.add_input_stuffing
  pub ignored : other.general.ignore_joint_termination ≡ one.general.ignore_joint_termination
