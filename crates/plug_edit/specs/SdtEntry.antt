-- What is said of `sdt`. This project's own rule.
use Rattle.std.specs.Prelude.{codes, None}
use Rattle.plugin_entry.specs.PluginEntry.{PluginEntry, silent_entry}
use Rattle.plug_edit.specs.Changes.{change_sdt}
use Rattle.plug_edit.specs.EditRule.{edit_rule}
use Rattle.plug_edit.specs.SdtSettings.{IsValidSdt}
use Rattle.plug_edit.specs.SdtWords.{sdt}
use Rattle.plug_edit.specs.declared.sdt_conf.EditSdtConf.{EditSdtConf}

abbrev pub sdt_entry : PluginEntry EditSdtConf
sdt_entry = record (silent_entry (codes "sdt") sdt IsValidSdt (λ conf. edit_rule 17 (change_sdt conf))) {
  preallocated = λ _ _. None;
}
