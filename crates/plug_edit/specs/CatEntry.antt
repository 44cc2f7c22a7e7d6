-- What is said of `cat`. This project's own rule.
use Rattle.std.specs.Prelude.{codes, None}
use Rattle.plugin_entry.specs.PluginEntry.{PluginEntry, silent_entry}
use Rattle.plug_edit.specs.Changes.{change_cat}
use Rattle.plug_edit.specs.EditRule.{edit_rule}
use Rattle.plug_edit.specs.CatSettings.{IsValidCat}
use Rattle.plug_edit.specs.CatWords.{cat}
use Rattle.plug_edit.specs.declared.cat_conf.EditCatConf.{EditCatConf}

abbrev pub cat_entry : PluginEntry EditCatConf
cat_entry = record (silent_entry (codes "cat") cat IsValidCat (λ conf. edit_rule 1 (change_cat conf))) {
  preallocated = λ _ _. None;
}
