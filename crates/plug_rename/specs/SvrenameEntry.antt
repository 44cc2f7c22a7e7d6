-- What is said of `svrename`. This project's own rule.
use Rattle.std.specs.Prelude.{codes, None}
use Rattle.plugin_entry.specs.PluginEntry.{PluginEntry, silent_entry}
use Rattle.plug_rename.specs.RenameRule.{rename_rule}
use Rattle.plug_rename.specs.RenameSettings.{IsValidRename}
use Rattle.plug_rename.specs.RenameWords.{rename_options}
use Rattle.plug_rename.specs.declared.rename_conf.RenameConf.{RenameConf}

abbrev pub svrename_entry : PluginEntry RenameConf
svrename_entry = record (silent_entry (codes "svrename") rename_options IsValidRename rename_rule) { preallocated = λ _ _. None }
