-- What is said of `eit`. This project's own rule.
use Rattle.std.specs.Prelude.{codes, None}
use Rattle.plugin_entry.specs.PluginEntry.{PluginEntry, silent_entry}
use Rattle.plug_eit.specs.EitRule.{eit_rule}
use Rattle.plug_eit.specs.EitSettings.{IsValidEit}
use Rattle.plug_eit.specs.EitWords.{eit}
use Rattle.plug_eit.specs.declared.eit_conf.EitConf.{EitConf}

abbrev pub eit_entry : PluginEntry EitConf
eit_entry = record (silent_entry (codes "eit") eit IsValidEit eit_rule) { preallocated = λ _ _. None }
