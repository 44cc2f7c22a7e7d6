-- What is said of `timestamps`. This project's own rule.
use Rattle.std.specs.Prelude.{codes, None, false}
use Rattle.plugin_entry.specs.PluginEntry.{PluginEntry, silent_entry}
use Rattle.plug_times.specs.TimestampsRule.{timestamps_rule}
use Rattle.plug_times.specs.TimestampsSettings.{IsValidTimestamps}
use Rattle.plug_times.specs.TimestampsWords.{timestamps}
use Rattle.plug_times.specs.declared.timestamps_conf.TimestampsConf.{TimestampsConf}

abbrev pub timestamps_entry : PluginEntry TimestampsConf
timestamps_entry = record (silent_entry (codes "timestamps") timestamps IsValidTimestamps timestamps_rule) {
  preallocated = λ _ _. None;
  silent = λ _. false;
}
