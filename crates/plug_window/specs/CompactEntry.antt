-- What is said of `compact`. This project's own rule.
use Rattle.std.specs.Prelude.{codes}
use Rattle.plugin_options.specs.OptionTable.{made_into}
use Rattle.plugin_entry.specs.PluginEntry.{PluginEntry, silent_entry}
use Rattle.plug_window.specs.CompactRule.{compact_rule}
use Rattle.plug_window.specs.WindowSettings.{IsValidWindow}
use Rattle.plug_window.specs.WindowWords.{window}
use Rattle.plug_window.specs.declared.compact_conf.CompactConf.{CompactConf}

abbrev pub compact_entry : PluginEntry CompactConf
compact_entry = silent_entry (codes "compact") (made_into (λ window. record { window = window }) window)
    (λ conf. IsValidWindow conf.window) (λ conf. compact_rule conf.window)
