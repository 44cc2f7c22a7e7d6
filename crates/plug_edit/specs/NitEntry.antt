-- What is said of `nit`. This project's own rule.
use Rattle.std.specs.Prelude.{codes, None}
use Rattle.plugin_entry.specs.PluginEntry.{PluginEntry, silent_entry}
use Rattle.plug_edit.specs.Changes.{change_nit}
use Rattle.plug_edit.specs.EditRule.{edit_rule}
use Rattle.plug_edit.specs.NitSettings.{IsValidNit}
use Rattle.plug_edit.specs.NitWords.{nit}
use Rattle.plug_edit.specs.declared.nit_conf.EditNitConf.{EditNitConf}

abbrev pub nit_entry : PluginEntry EditNitConf
nit_entry = record (silent_entry (codes "nit") nit IsValidNit (λ conf. edit_rule 16 (change_nit conf))) {
  preallocated = λ _ _. None;
}
