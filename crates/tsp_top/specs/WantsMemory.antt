-- What is left where memory ran out, of chains whose plugins take their room before the run. This project's own rule.
use Rattle.std.specs.Prelude.{◌≡◌, ◌⊎◌, ℕ, List, [], IfSome}
use Rattle.chain_model.specs.declared.cause.Cause.{Cause}
use Rattle.chain_args.specs.declared.plan_type.Plan.{Plan}
use Rattle.ts_outside.specs.Desk.{DeskView}
use Rattle.ts_outside.specs.Saying.{ReportsNothing}
use Rattle.ts_outside.specs.Entries.{outputs_with}
use Rattle.tsp_top.specs.MemoryFirst.{NoStageWants}
use Rattle.tsp_top.specs.PlannedChain.{GivenInput, chain_on, GivesInput, output_name}
use Rattle.tsp_top.specs.PlannedTables.{AreTables}
use Rattle.tsp_top.specs.CallOutcome.{unreported}
use Rattle.tsp_top.specs.StreamTheorem.{IsPureOrFault, Reports, WritesTo}

-- the run wrote all that its cut and cause say, and no stage ran out of memory: only the report did
pub record WroteUnreported (plan : Plan) (old new : DeskView) : Type 0 where
  pub tables : List (List (List ℕ))
  pub tables_are : AreTables old plan.plugins tables
  pub files : List (List ℕ × List ℕ)
  pub files_are : IfSome old.files (λ told. files ≡ told)
  pub given : GivenInput
  pub given_is : GivesInput plan.input old.files files given
  pub cut : ℕ
  pub why : Cause
  pub no_want : NoStageWants why
  pub pure_or_fault : IsPureOrFault (chain_on plan tables given) cut why
  pub written : WritesTo plan (chain_on plan tables given) old new cut why
  -- nothing is reported, or with `--live` the first lines
  pub reported : Reports plan given.left_out (chain_on plan tables given) old new (unreported cut why)

-- nothing is reported, and no output was closed, or an empty one; or one was closed with all that the run wrote, and nothing is
-- reported or, with `--live`, the first lines
abbrev pub WantsMemoryFirst : Plan → DeskView → DeskView → Type 0
WantsMemoryFirst plan old new =
    (ReportsNothing old new
    × ((new.outputs ≡ old.outputs) ⊎ (new.outputs ≡ outputs_with (output_name plan.output) old.outputs [])))
    ⊎ WroteUnreported plan old new
