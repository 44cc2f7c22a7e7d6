-- What is said of `time`. This project's own rule.
use Rattle.std.specs.Prelude.{codes}
use Rattle.plugin_entry.specs.PluginEntry.{PluginEntry, silent_entry}
use Rattle.plug_time.specs.TimeRule.{time_rule}
use Rattle.plug_time.specs.TimeSettings.{IsValidTime}
use Rattle.plug_time.specs.TimeWords.{time}
use Rattle.plug_time.specs.declared.time_conf.TimeConf.{TimeConf}

abbrev pub time_entry : PluginEntry TimeConf
time_entry = silent_entry (codes "time") time IsValidTime (λ conf. time_rule conf.shift)
