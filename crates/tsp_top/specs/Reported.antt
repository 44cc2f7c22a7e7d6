-- Plugins that can be asked for their reports up to a cut. This project's own rule.
use Rattle.std.specs.Prelude.{◌≡◌, ◌⊎◌, ◌||◌, Bool, true, false, ℕ, List}
use Rattle.chain_model.specs.declared.cause.Cause.{Cause}
use Rattle.ts_outside.specs.Desk.{DeskView}
use Rattle.ts_outside.specs.Saying.{Says}
use Rattle.chain_args.specs.declared.general_conf.GeneralConf.{GeneralConf}
use Rattle.tsp_top.specs.CallOutcome.{run_status}
use Rattle.tsp_top.specs.declared.status.Status.{Status}
use Rattle.tsp_top.specs.declared.status.Status.TheVariants.{NoMemory}
use Rattle.ts_packet.specs.declared.cell.Cell.{Cell}
use Rattle.chain_model.specs.PluginRule.{PluginRule}
use Rattle.chain_model.specs.Apply.{StageList}
use Rattle.chain_run.specs.Met.{AllMetTo}
use Rattle.chain_model.specs.Prefix.{IsPrefix}
use Rattle.chain_live.specs.LiveReports.{LiveLine}
use Rattle.tsp_top.specs.Printed.{live_text}

-- the plugins met the cells before the cut of the lists of some chain; the first of them comes after stage `j`
pub record ReachesCut {P : Type 0} (stands : P → List Cell → ℕ → Type 0)
    (plugins : List P) (cut j : ℕ) : Type 0 where
  pub rules : List PluginRule
  pub input : StageList
  pub met : AllMetTo stands rules input cut j plugins

-- a run is reported, of which this is known: its text, whole or a first part of it where a report failed, with the status of the cause or of the
-- late failure; or memory ran out for the text, and nothing is reported
abbrev pub ReportsRun : GeneralConf → List ℕ → Bool → Type 0 → Cause → Bool → DeskView → DeskView → Status → Type 0
ReportsRun general text faulty known why closing_failed old new status =
    ((failed : Bool) × Says old new text failed
    × (status ≡ run_status general faulty why (closing_failed || failed)) × known)
    ⊎ ((status ≡ NoMemory) × (new ≡ old))

-- the first of these lines were printed while the run went, and a report failed there or none did
pub record SaysFirst (bare : Bool) (lines : List LiveLine) (old new : DeskView) : Type 0 where
  pub first : List LiveLine
  pub begins : IsPrefix first lines
  pub failed : Bool
  pub said : Says old new (live_text bare first) failed

-- what stands reported of a run for the rest of whose report there was no memory: nothing, or with `--live` the first of its lines
abbrev pub StandsUnreported : Bool → Bool → List LiveLine → DeskView → DeskView → Type 0
StandsUnreported false bare lines old new = new ≡ old
StandsUnreported true bare lines old new = SaysFirst bare lines old new

-- a run is reported as the general options ask, or there was no memory for the whole report
abbrev pub ReportsAsked : GeneralConf → List ℕ → List LiveLine → Bool → Type 0 → Cause → Bool → DeskView → DeskView → Status → Type 0
ReportsAsked general text lines faulty known why closing_failed old new status =
    ((failed : Bool) × Says old new text failed
    × (status ≡ run_status general faulty why (closing_failed || failed)) × known)
    ⊎ ((status ≡ NoMemory) × StandsUnreported general.live general.bare lines old new)
