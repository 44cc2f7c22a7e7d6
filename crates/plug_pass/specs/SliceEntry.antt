-- What is said of `slice`. This project's own rule.
use Rattle.std.specs.Prelude.{codes}
use Rattle.plugin_entry.specs.PluginEntry.{PluginEntry, silent_entry}
use Rattle.plug_pass.specs.SliceRule.{slice_rule}
use Rattle.plug_pass.specs.SliceSettings.{IsValidSlice}
use Rattle.plug_pass.specs.SliceWords.{slice}
use Rattle.plug_pass.specs.declared.slice_conf.SliceConf.{SliceConf}

abbrev pub slice_entry : PluginEntry SliceConf
slice_entry = silent_entry (codes "slice") slice IsValidSlice slice_rule
