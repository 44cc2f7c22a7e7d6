-- What is said of `restuff`. This project's own rule.
use Rattle.std.specs.Prelude.{codes}
use Rattle.plugin_entry.specs.PluginEntry.{PluginEntry, silent_entry}
use Rattle.plug_restuff.specs.RestuffRule.{restuff_rule}
use Rattle.plug_restuff.specs.RestuffSettings.{IsValidRestuff}
use Rattle.plug_restuff.specs.RestuffWords.{restuff}
use Rattle.plug_restuff.specs.declared.restuff_conf.RestuffConf.{RestuffConf}

abbrev pub restuff_entry : PluginEntry RestuffConf
restuff_entry = silent_entry (codes "restuff") restuff IsValidRestuff restuff_rule
