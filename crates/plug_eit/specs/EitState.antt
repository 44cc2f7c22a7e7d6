-- What the steps of `eit` stand for.
-- This project's own rule: once memory ran out, they stand for no packets.
use Rattle.std.specs.Prelude.{◌≡◌, ℕ, false, List}
use Rattle.ts_packet.specs.declared.cell.Cell.{Cell}
use Rattle.ts_packet.specs.Cells.{live_packets}
use Rattle.chain_model.specs.PluginRule.{PluginRule}
use Rattle.plugin_trait.specs.Finding.{IsFirstFind}
use Rattle.section_flow.specs.FlowStands as flowing
use Rattle.section_flow.specs.declared.flow.Flow.{Flow}
use Rattle.followed_services.specs.NumberStands as following
use Rattle.followed_services.specs.declared.named_service.NamedService.{NamedService}
use Rattle.plug_eit.specs.EitRule.{eit_edit, eit_rule, finds_altered}
use Rattle.plug_eit.specs.declared.eit.EitSteps.{EitSteps}
use Rattle.plug_eit.specs.declared.eit_conf.EitConf.{EitConf}
use Rattle.plug_eit.specs.declared.numbers.TheConstants.{EIT_PID}

-- the number of the service is the one that is meant with these packets, and the flow stands for them
pub record Edits (conf : EitConf) (service : NamedService) (flow : Flow) (met : List (List ℕ)) : Type 0 where
  pub named : following.StandsFor conf.service service met
  pub flows : flowing.StandsFor flow EIT_PID (eit_edit conf) met

-- the steps stand for these packets, unless memory ran out
abbrev pub StandsFor : EitSteps → List (List ℕ) → Type 0
StandsFor steps met = steps.failed ≡ false → Edits steps.edit.conf steps.service steps.flow met

-- the same for the cells that they met; and the position that is kept is the first at which a section was complete that the edit
-- changes or removes
abbrev pub MeetsHistory : EitSteps → List Cell → Type 0
MeetsHistory steps history = StandsFor steps (live_packets history) × IsFirstFind (finds_altered steps.edit.conf) history steps.found

-- the rule of the plugin
abbrev pub rule_of : EitSteps → PluginRule
rule_of steps = eit_rule steps.edit.conf
