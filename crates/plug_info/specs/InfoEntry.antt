-- What is said of `info`. This project's own rule.
use Rattle.std.specs.Prelude.{codes, None, false}
use Rattle.plugin_entry.specs.PluginEntry.{PluginEntry, silent_entry}
use Rattle.plug_info.specs.InfoRule.{info_rule}
use Rattle.plug_info.specs.InfoSettings.{IsValidInfo}
use Rattle.plug_info.specs.InfoWords.{info}
use Rattle.plug_info.specs.declared.info_conf.InfoConf.{InfoConf}

abbrev pub info_entry : PluginEntry InfoConf
info_entry = record (silent_entry (codes "info") info IsValidInfo info_rule) {
  preallocated = λ _ _. None;
  silent = λ _. false;
}
