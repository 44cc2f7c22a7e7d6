-- What is said of `inject`. This project's own rule.
use Rattle.std.specs.Prelude.{codes, None, Some, []}
use Rattle.plugin_entry.specs.PluginEntry.{PluginEntry, silent_entry}
use Rattle.plug_inject.specs.InjectRule.{inject_rule}
use Rattle.plug_inject.specs.InjectSettings.{IsValidInject}
use Rattle.plug_inject.specs.InjectWords.{inject}
use Rattle.plug_inject.specs.declared.inject_conf.InjectConf.{InjectConf}

abbrev pub inject_entry : PluginEntry InjectConf
inject_entry = record (silent_entry (codes "inject") inject IsValidInject (λ conf. inject_rule conf [])) {
  rule = inject_rule;
  preallocated = λ _ _. None;
  table_file = λ conf. Some conf.file;
}
