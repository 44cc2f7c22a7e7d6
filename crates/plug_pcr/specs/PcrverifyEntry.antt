-- What is said of `pcrverify`. This project's own rule.
use Rattle.std.specs.Prelude.{codes, None, false}
use Rattle.plugin_entry.specs.PluginEntry.{PluginEntry, silent_entry}
use Rattle.plug_pcr.specs.PcrverifyRule.{pcrverify_rule}
use Rattle.plug_pcr.specs.PcrverifySettings.{IsValidPcrverify}
use Rattle.plug_pcr.specs.PcrverifyWords.{pcrverify}
use Rattle.plug_pcr.specs.declared.pcrverify_conf.PcrverifyConf.{PcrverifyConf}

abbrev pub pcrverify_entry : PluginEntry PcrverifyConf
pcrverify_entry = record (silent_entry (codes "pcrverify") pcrverify IsValidPcrverify pcrverify_rule) {
  preallocated = λ _ _. None;
  silent = λ _. false;
}
