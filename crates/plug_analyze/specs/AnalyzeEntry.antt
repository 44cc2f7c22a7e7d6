-- What is said of `analyze`. This project's own rule.
use Rattle.std.specs.Prelude.{codes, None, false}
use Rattle.plugin_entry.specs.PluginEntry.{PluginEntry, silent_entry}
use Rattle.plug_analyze.specs.AnalyzeRule.{analyze_rule}
use Rattle.plug_analyze.specs.AnalyzeSettings.{IsValidAnalyze}
use Rattle.plug_analyze.specs.AnalyzeWords.{analyze}
use Rattle.plug_analyze.specs.declared.analyze_conf.AnalyzeConf.{AnalyzeConf}

abbrev pub analyze_entry : PluginEntry AnalyzeConf
analyze_entry = record (silent_entry (codes "analyze") analyze IsValidAnalyze (λ _. analyze_rule)) {
  preallocated = λ _ _. None;
  silent = λ _. false;
}
