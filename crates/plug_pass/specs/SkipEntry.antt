-- What is said of `skip`. This project's own rule.
use Rattle.std.specs.Prelude.{codes}
use Rattle.plugin_entry.specs.PluginEntry.{PluginEntry, silent_entry}
use Rattle.plug_pass.specs.SkipRule.{skip_rule}
use Rattle.plug_pass.specs.SkipSettings.{IsValidSkip}
use Rattle.plug_pass.specs.SkipWords.{skip}
use Rattle.plug_pass.specs.declared.skip_conf.SkipConf.{SkipConf}

abbrev pub skip_entry : PluginEntry SkipConf
skip_entry = silent_entry (codes "skip") skip IsValidSkip (λ conf. skip_rule conf.operand)
