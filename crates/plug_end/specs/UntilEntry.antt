-- What is said of `until`. This project's own rule.
use Rattle.std.specs.Prelude.{codes}
use Rattle.plugin_entry.specs.PluginEntry.{PluginEntry, silent_entry}
use Rattle.plug_end.specs.UntilRule.{until_rule}
use Rattle.plug_end.specs.UntilSettings.{IsValidUntil}
use Rattle.plug_end.specs.UntilWords.{until}
use Rattle.plug_end.specs.declared.until_conf.UntilConf.{UntilConf}

abbrev pub until_entry : PluginEntry UntilConf
until_entry = record (silent_entry (codes "until") until IsValidUntil until_rule) {
  joint = λ conf. conf.joint_termination;
}
