-- What is said of `svremove`. This project's own rule.
use Rattle.std.specs.Prelude.{codes, None}
use Rattle.plugin_entry.specs.PluginEntry.{PluginEntry, silent_entry}
use Rattle.plug_service.specs.ServiceRule.{svremove_rule}
use Rattle.plug_service.specs.ServiceSettings.{IsValidService}
use Rattle.plug_service.specs.SvremoveWords.{svremove_options}
use Rattle.plug_service.specs.declared.svremove_conf.SvremoveConf.{SvremoveConf}

abbrev pub svremove_entry : PluginEntry SvremoveConf
svremove_entry = record (silent_entry (codes "svremove") svremove_options (λ conf. IsValidService conf.service) svremove_rule) { preallocated = λ _ _. None }
