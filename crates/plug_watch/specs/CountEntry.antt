-- What is said of `count`. This project's own rule.
use Rattle.std.specs.Prelude.{codes, None, Some, if◌then◌else◌, false}
use Rattle.plugin_entry.specs.PluginEntry.{PluginEntry, silent_entry}
use Rattle.plug_watch.specs.CountRule.{count_rule}
use Rattle.plug_watch.specs.CountSettings.{IsValidCount}
use Rattle.plug_watch.specs.CountWords.{count}
use Rattle.plug_watch.specs.declared.count_conf.CountConf.{CountConf}

abbrev pub count_entry : PluginEntry CountConf
count_entry = record (silent_entry (codes "count") count IsValidCount count_rule) {
  preallocated = λ conf buffer. if conf.all then None else Some buffer;
  silent = λ _. false;
}
