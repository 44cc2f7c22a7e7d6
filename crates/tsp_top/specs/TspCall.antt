-- What a call of `tsp` does. This project's own rule.
use Rattle.std.specs.Prelude.{◌≡◌, ◌⊎◌, ℕ, List, Some}
use Rattle.chain_args.specs.PlanOf.{plan_of}
use Rattle.chain_args.specs.WordsFault.{IsFirstFault}
use Rattle.chain_args.specs.declared.plan_type.Plan.{Plan}
use Rattle.plugin_options.specs.declared.words_rule.WordsRule.{WordsRule}
use Rattle.chain_args.specs.declared.words_fault.WordsFault.TheVariants.{At}
use Rattle.ts_outside.specs.Desk.{DeskView}
use Rattle.tsp_top.specs.PlannedTables.{AreTables, tables_asked}
use Rattle.tsp_top.specs.Refusals.{RefusesWords}
use Rattle.tsp_top.specs.StreamTheorem.{StreamTheorem}
use Rattle.tsp_top.specs.TableEnds.{IsOverAtTables}
use Rattle.tsp_top.specs.declared.status.Status.{Status}
use Rattle.tsp_top.specs.declared.status.Status.TheVariants.{NoMemory}

-- a call whose chain is ready is over before its run: the stream theorem holds of it, or memory ran out before
-- anything more was opened or reported
abbrev pub IsOverBefore : Plan → List (List (List ℕ)) → DeskView → DeskView → Status → Type 0
IsOverBefore plan tables old new status = StreamTheorem plan tables old new status ⊎ ((status ≡ NoMemory) × (new ≡ old))

-- the files of the plan's tables were asked for and have these, and the stream theorem holds of the rest of the call
pub record RunsPlan (plan : Plan) (old new : DeskView) (status : Status) : Type 0 where
  pub tables : List (List (List ℕ))
  pub tables_are : AreTables old plan.plugins tables
  pub theorem : StreamTheorem plan tables (tables_asked old plan) new status

-- a call whose words have this plan: the files of its tables are read first; then the stream theorem holds, unless one
-- of them ended the call, or memory ran out before the input was opened
abbrev pub CallsPlan : Plan → DeskView → DeskView → Status → Type 0
CallsPlan plan old new status = RunsPlan plan old new status ⊎ IsOverAtTables plan.plugins old new status

-- the words have a plan, and the call is one of it; or they have none, and the first broken rule is reported; or memory
-- ran out before anything was opened or reported
abbrev pub CallsTsp : List (List ℕ) → DeskView → DeskView → Status → Type 0
CallsTsp words old new status =
    ((plan : Plan) × (plan_of words ≡ Some plan) × CallsPlan plan old new status)
    ⊎ (((word : ℕ) × (rule : WordsRule) × IsFirstFault words (At word rule)
    × RefusesWords old new word rule status)
    ⊎ ((status ≡ NoMemory) × (new ≡ old)))
