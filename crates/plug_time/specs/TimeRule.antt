-- The rule of `time`. This project's own rule.
use Rattle.std.specs.Prelude.{ℤ}
use Rattle.chain_model.specs.PluginRule.{PluginRule, passes}
use Rattle.plugin_trait.specs.Finding.{finds_none}
use Rattle.plugin_trait.specs.SilentRule.{silent_rule}
use Rattle.plug_time.specs.HasTime.{finds_time}
use Rattle.plug_time.specs.MovedTimes.{moved_packet}

-- every packet passes, with the times in it moved. A run in which no packet has a time has a fault
abbrev pub time_rule : ℤ → PluginRule
time_rule shift = record (silent_rule (λ _ packet. passes (moved_packet shift packet))) { has_fault = finds_none finds_time }
