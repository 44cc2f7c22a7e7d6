-- What a run begins with. This project's own rule.
use Rattle.std.specs.Prelude.{ℕ, suc, List, length, map, drop, Option, None}
use Rattle.ts_packet.specs.declared.cell.Cell.{Cell}
use Rattle.chain_model.specs.PluginRule.{PluginRule}
use Rattle.chain_model.specs.Stuffed as model
use Rattle.chain_core.specs.declared.core_plan.CorePlan.{CorePlan}
use Rattle.chain_core.specs.declared.stage_word.StageWord.{StageWord}
use Rattle.chain_core.specs.Machine.{ChainState}
use Rattle.plugin_trait.specs.declared.heard.Heard.{Heard}
use Rattle.stage_run.specs.Seeing.{Seeing, heard_rule, heard_preallocated}
use Rattle.stage_run.specs.declared.input_part.InputPart.{InputPart}
use Rattle.stage_run.specs.declared.output_part.OutputPart.{OutputPart}
use Rattle.stage_run.specs.declared.stuffing.Stuffing.{Stuffing}
use Rattle.stage_run.specs.InputStands.{stuffing_of}

-- the word of a stage that reports nothing
abbrev pub nothing_told : StageWord
nothing_told = record { agreed = None; ended = None }

-- the cells that stage `k` gave and the next one has not
abbrev pub between : ChainState → ℕ → List Cell
between state k = drop (length (state.stages (suc k)).given) (state.stages k).given

-- what a run began with: its ends, its stuffing, the rules and the rooms of its plugins, and its plan; and how far its lines
-- were taken away since
pub record RunStart (S K : Type 0) : Type 0 where
  pub from : InputPart S
  pub to : OutputPart K
  pub stuffing : model.Stuffing
  pub rules : List PluginRule
  -- for how many positions after its mark each plugin made room, where it did
  pub rooms : List (Option ℕ)
  pub plan : CorePlan
  -- the position up to which the lines of the plugin after `j` others were taken away
  pub told : ℕ → ℕ

-- the chain that these ends and plugins begin
abbrev pub began_with : {S K P : Type 0} → Seeing S K P → InputPart S → Stuffing → List (Heard P) → OutputPart K
    → CorePlan → RunStart S K
began_with see from stuffing plugins to plan = record {
  from = from;
  to = to;
  stuffing = stuffing_of stuffing;
  rules = map (heard_rule see) plugins;
  rooms = map (heard_preallocated see) plugins;
  plan = plan;
  told = λ _. 0;
}

-- the same where lines were taken away up to these positions
abbrev pub told_to : {S K : Type 0} → RunStart S K → (ℕ → ℕ) → RunStart S K
told_to begun told = record begun { told = told }
