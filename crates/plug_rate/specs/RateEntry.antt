-- What is said of `rate`. This project's own rule.
use Rattle.std.specs.Prelude.{codes, None, false}
use Rattle.plugin_entry.specs.PluginEntry.{PluginEntry, silent_entry}
use Rattle.plug_rate.specs.RateRule.{rate_rule}
use Rattle.plug_rate.specs.RateSettings.{IsValidRate}
use Rattle.plug_rate.specs.RateWords.{rate}
use Rattle.plug_rate.specs.declared.rate_conf.RateConf.{RateConf}

abbrev pub rate_entry : PluginEntry RateConf
rate_entry = record (silent_entry (codes "rate") rate IsValidRate rate_rule) {
  preallocated = λ _ _. None;
  silent = λ _. false;
}
