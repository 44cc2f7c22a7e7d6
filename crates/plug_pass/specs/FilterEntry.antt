-- What is said of `filter`. This project's own rule.
use Rattle.std.specs.Prelude.{codes}
use Rattle.plugin_entry.specs.PluginEntry.{PluginEntry, silent_entry}
use Rattle.plug_pass.specs.FilterRule.{filter_rule}
use Rattle.plug_pass.specs.FilterSettings.{IsValidFilter}
use Rattle.plug_pass.specs.FilterWords.{filter}
use Rattle.plug_pass.specs.declared.filter_conf.FilterConf.{FilterConf}

abbrev pub filter_entry : PluginEntry FilterConf
filter_entry = silent_entry (codes "filter") filter IsValidFilter filter_rule
