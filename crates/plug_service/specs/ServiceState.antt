-- When a plugin stands for the packets that it processed.
-- This project's own rule: once memory ran out it stands for none.
use Rattle.std.specs.Prelude.{◌≡◌, ℕ, Bool, false, List}
use Rattle.ts_packet.specs.declared.cell.Cell.{Cell}
use Rattle.ts_packet.specs.Cells.{live_packets}
use Rattle.chain_model.specs.PluginRule.{PluginRule}
use Rattle.plugin_trait.specs.Finding.{IsFirstFind, first_of}
use Rattle.plugin_trait.specs.declared.first_find.FirstFind.{FirstFind}
use Rattle.named_services.specs.declared.service_word.ServiceWord.{ServiceWord}
use Rattle.plug_service.specs.ActionsState.{FollowsServices}
use Rattle.plug_service.specs.EditorsState.{EditorsStand}
use Rattle.plug_service.specs.Presence.{finds_service, is_there_after}
use Rattle.plug_service.specs.ServiceRule.{service_rule}
use Rattle.plug_service.specs.declared.way.Way.{Way}
use Rattle.plug_service.specs.declared.service_steps.ServiceSteps.{ServiceSteps}

-- if a service is there, a position was noted, so that to note another one changes nothing
abbrev pub IsNoted : FirstFind → Bool → Type 0
IsNoted found there = (at : ℕ) → first_of found.at at there ≡ found.at

-- tables in force, actions and editors are those of the packets, and it was noted if a service is there
pub record Served (way : Way) (words : List ServiceWord) (plugin : ServiceSteps) (met : List (List ℕ)) : Type 0 where
  pub followed : FollowsServices way words plugin.follower met
  pub edited : EditorsStand way words plugin.editors met
  pub noted : IsNoted plugin.found (is_there_after way words met)

-- the plugin stands for the packets, unless memory ran out
abbrev pub StandsFor : ServiceSteps → List (List ℕ) → Type 0
StandsFor plugin met = plugin.failed ≡ false → Served plugin.way plugin.words plugin met

-- the same for the cells that it met; and the position that is kept is the first at which one of the services was there
abbrev pub MeetsHistory : ServiceSteps → List Cell → Type 0
MeetsHistory plugin history =
    StandsFor plugin (live_packets history) × IsFirstFind (finds_service plugin.way plugin.words) history plugin.found

-- the rule of the plugin
abbrev pub rule_of : ServiceSteps → PluginRule
rule_of plugin = service_rule plugin.way plugin.words plugin.stuffing
