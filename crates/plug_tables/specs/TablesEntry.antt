-- What is said of `tables`. This project's own rule.
use Rattle.std.specs.Prelude.{codes, None, false}
use Rattle.plugin_entry.specs.PluginEntry.{PluginEntry, silent_entry}
use Rattle.plug_tables.specs.TablesRule.{tables_rule}
use Rattle.plug_tables.specs.TablesSettings.{IsValidTables}
use Rattle.plug_tables.specs.TablesWords.{tables}
use Rattle.plug_tables.specs.declared.tables_conf.TablesConf.{TablesConf}

abbrev pub tables_entry : PluginEntry TablesConf
tables_entry = record (silent_entry (codes "tables") tables IsValidTables tables_rule) {
  preallocated = λ _ _. None;
  silent = λ _. false;
}
