-- What is said of `pattern`. This project's own rule.
use Rattle.std.specs.Prelude.{codes}
use Rattle.plugin_entry.specs.PluginEntry.{PluginEntry, silent_entry}
use Rattle.plug_pass.specs.PatternRule.{pattern_rule}
use Rattle.plug_pass.specs.PatternSettings.{IsValidPattern}
use Rattle.plug_pass.specs.PatternWords.{pattern}
use Rattle.plug_pass.specs.declared.pattern_conf.PatternConf.{PatternConf}

abbrev pub pattern_entry : PluginEntry PatternConf
pattern_entry = silent_entry (codes "pattern") pattern IsValidPattern pattern_rule
