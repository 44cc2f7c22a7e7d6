-- What is said of `remap`. This project's own rule.
use Rattle.std.specs.Prelude.{codes, None, Some, if◌then◌else◌}
use Rattle.plugin_entry.specs.PluginEntry.{PluginEntry, silent_entry}
use Rattle.plug_move.specs.RemapRule.{remap_rule}
use Rattle.plug_move.specs.RemapSettings.{IsValidRemap}
use Rattle.plug_move.specs.RemapWords.{remap}
use Rattle.plug_move.specs.declared.remap_conf.RemapConf.{RemapConf}

abbrev pub remap_entry : PluginEntry RemapConf
remap_entry = record (silent_entry (codes "remap") remap IsValidRemap remap_rule) {
  preallocated = λ conf buffer. if conf.no_psi then Some buffer else None;
}
