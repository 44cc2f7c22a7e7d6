-- What is said of `monitor`. This project's own rule.
use Rattle.std.specs.Prelude.{codes, None, false}
use Rattle.plugin_entry.specs.PluginEntry.{PluginEntry, silent_entry}
use Rattle.plug_monitor.specs.MonitorRule.{monitor_rule}
use Rattle.plug_monitor.specs.MonitorSettings.{IsValidMonitor}
use Rattle.plug_monitor.specs.MonitorWords.{monitor}
use Rattle.plug_monitor.specs.declared.monitor_conf.MonitorConf.{MonitorConf}

abbrev pub monitor_entry : PluginEntry MonitorConf
monitor_entry = record (silent_entry (codes "monitor") monitor IsValidMonitor monitor_rule) {
  preallocated = λ _ _. None;
  silent = λ _. false;
}
