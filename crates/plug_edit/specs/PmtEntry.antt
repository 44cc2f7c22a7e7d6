-- What is said of `pmt`. This project's own rule.
use Rattle.std.specs.Prelude.{codes, None}
use Rattle.plugin_entry.specs.PluginEntry.{PluginEntry, silent_entry}
use Rattle.plug_edit.specs.PmtRule.{pmt_rule}
use Rattle.plug_edit.specs.PmtSettings.{IsValidPmt}
use Rattle.plug_edit.specs.PmtWords.{pmt}
use Rattle.plug_edit.specs.declared.pmt_conf.EditPmtConf.{EditPmtConf}

abbrev pub pmt_entry : PluginEntry EditPmtConf
pmt_entry = record (silent_entry (codes "pmt") pmt IsValidPmt pmt_rule) {
  preallocated = λ _ _. None;
}
