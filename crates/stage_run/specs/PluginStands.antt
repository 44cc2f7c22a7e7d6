-- What a plugin's stage stands for. This project's own rule.
use Rattle.std.specs.Prelude.{◌≡◌, ℕ, List, length, Option, None, Some, is_some}
use Rattle.ts_packet.specs.declared.cell.Cell.{Cell}
use Rattle.chain_model.specs.PluginRule.{PluginRule}
use Rattle.chain_model.specs.Apply.{OwnEnd, last_passed, apply}
use Rattle.chain_model.specs.Joint.{agreement_of}
use Rattle.chain_core.specs.declared.stage_end.StageEnd.{StageEnd}
use Rattle.chain_core.specs.declared.stage_end.StageEnd.TheVariants.{Last}
use Rattle.stage_run.specs.declared.plugin_stage.PluginStage.{PluginStage}
use Rattle.stage_run.specs.PartLists.{PartLists}
use Rattle.stage_run.specs.HeardSince.{HeardSince}

-- how the list of the cells that were met has ended: after a last packet, or not
abbrev pub end_after_met : Option StageEnd → Option OwnEnd
end_after_met (Some Last) = Some last_passed
end_after_met _ = None

-- the plugin met and gave these lists, reported this end, and has the lines of the cells below its mark, but for those that
-- were taken away
pub record PluginStands {P : Type 0} (rule : P → PluginRule) (stands : P → List Cell → ℕ → Type 0)
    (stage : PluginStage P) (lists : PartLists) (told : Option StageEnd) : Type 0 where
  pub heard : HeardSince rule stands lists.from stage.heard lists.met lists.mark
  -- what was given is the plugin's image of what was met, cell by cell
  pub given : lists.given ≡ (apply (rule stage.heard.plugin) lists.met).cells
  pub length_same : length lists.given ≡ length lists.met
  pub ended : (apply (rule stage.heard.plugin) lists.met).ended ≡ end_after_met told
  pub agreed : stage.agreed ≡ is_some (agreement_of (rule stage.heard.plugin) lists.met)
