-- What is said of `rmorphan`. This project's own rule.
use Rattle.std.specs.Prelude.{codes, None}
use Rattle.plugin_options.specs.OptionTable.{made_into}
use Rattle.plugin_entry.specs.PluginEntry.{PluginEntry, silent_entry}
use Rattle.plug_window.specs.RmorphanRule.{rmorphan_rule}
use Rattle.plug_window.specs.WindowSettings.{IsValidWindow}
use Rattle.plug_window.specs.WindowWords.{window}
use Rattle.plug_window.specs.declared.rmorphan_conf.RmorphanConf.{RmorphanConf}

abbrev pub rmorphan_entry : PluginEntry RmorphanConf
rmorphan_entry = record (silent_entry (codes "rmorphan") (made_into (λ window. record { window = window }) window)
    (λ conf. IsValidWindow conf.window) (λ conf. rmorphan_rule conf.window)) { preallocated = λ _ _. None }
