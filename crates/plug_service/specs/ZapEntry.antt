-- What is said of `zap`. This project's own rule.
use Rattle.std.specs.Prelude.{codes, None}
use Rattle.plugin_entry.specs.PluginEntry.{PluginEntry, silent_entry}
use Rattle.plug_service.specs.ServiceRule.{zap_rule}
use Rattle.plug_service.specs.ServiceSettings.{IsValidService}
use Rattle.plug_service.specs.ZapWords.{zap_options}
use Rattle.plug_service.specs.declared.zap_conf.ZapConf.{ZapConf}

abbrev pub zap_entry : PluginEntry ZapConf
zap_entry = record (silent_entry (codes "zap") zap_options (λ conf. IsValidService conf.service) zap_rule) { preallocated = λ _ _. None }
