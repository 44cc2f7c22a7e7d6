-- What is said of `pat`. This project's own rule.
use Rattle.std.specs.Prelude.{codes, None}
use Rattle.plugin_entry.specs.PluginEntry.{PluginEntry, silent_entry}
use Rattle.plug_edit.specs.Changes.{change_pat}
use Rattle.plug_edit.specs.EditRule.{edit_rule}
use Rattle.plug_edit.specs.PatSettings.{IsValidPat}
use Rattle.plug_edit.specs.PatWords.{pat}
use Rattle.plug_edit.specs.declared.pat_conf.EditPatConf.{EditPatConf}

abbrev pub pat_entry : PluginEntry EditPatConf
pat_entry = record (silent_entry (codes "pat") pat IsValidPat (λ conf. edit_rule 0 (change_pat conf))) {
  preallocated = λ _ _. None;
}
