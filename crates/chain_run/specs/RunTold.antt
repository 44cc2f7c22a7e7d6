-- The result of a run of which lines were taken away while it went. This project's own rule.
use Rattle.std.specs.Prelude.{◌≡◌, ℕ, suc, List, length, map}
use Rattle.ts_packet.specs.declared.cell.Cell.{Cell}
use Rattle.chain_core.specs.declared.closed.Closed.{Closed}
use Rattle.chain_core.specs.declared.core_plan.CorePlan.{CorePlan}
use Rattle.chain_core.specs.Machine.{Visit}
use Rattle.chain_core.specs.ChainRun.{state_after}
use Rattle.chain_core.specs.Keeps.{KeptRun}
use Rattle.plugin_trait.specs.declared.heard.Heard.{Heard}
use Rattle.stage_run.specs.Seeing.{Seeing, heard_rule}
use Rattle.stage_run.specs.HeardSince.{HeardSince}
use Rattle.stage_run.specs.declared.input_part.InputPart.{InputPart}
use Rattle.stage_run.specs.declared.output_part.OutputPart.{OutputPart}
use Rattle.stage_run.specs.declared.stuffing.Stuffing.{Stuffing}
use Rattle.chain_run.specs.RunOf.{RunBy}

module _ {S K P : Type 0} (see : Seeing S K P) (told : ℕ → ℕ) where
  -- a plugin of which the lines below one of these positions were taken away
  abbrev pub HeardSinceOne : Heard P → List Cell → ℕ → Type 0
  HeardSinceOne heard history mark = (j : ℕ) × HeardSince see.rule see.stands (told j) heard history mark

  -- a run that was closed: the lines of each plugin below one of these positions were taken away
  abbrev pub RunTold : InputPart S → InputPart S → Stuffing → List (Heard P) → List (Heard P) → OutputPart K → OutputPart K
      → CorePlan → Closed → Type 0
  RunTold = RunBy see HeardSinceOne

  -- the same of a run that made these visits, as the input's list says; the output gave the cells before the cut
  pub record ClosesTold (visits : List Visit) (from made_from : InputPart S) (stuffing : Stuffing)
      (plugins made : List (Heard P)) (to made_to : OutputPart K) (plan : CorePlan) (closed : Closed) : Type 0 where
    pub run : RunTold from made_from stuffing plugins made to made_to plan closed
    pub kept : KeptRun plan (map (heard_rule see) plugins) run.list visits
    pub gave : length ((state_after plan visits).stages (suc plan.plugins)).given ≡ closed.cut
