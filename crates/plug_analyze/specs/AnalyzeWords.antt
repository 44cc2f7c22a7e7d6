-- The options of `analyze`. This project's own rule.
use Rattle.std.specs.Prelude.{List, [], true}
use Rattle.plug_analyze.specs.declared.analyze_conf.AnalyzeConf.{AnalyzeConf}
use Rattle.plugin_options.specs.Options.{OptionRow}
use Rattle.plugin_options.specs.OptionTable.{OptionTable}

-- the options
abbrev pub analyze_rows : List OptionRow
analyze_rows = []

-- no option can be given, and none has to be
abbrev pub analyze : OptionTable AnalyzeConf
analyze = record {
  rows = analyze_rows;
  has_needed = λ found. true;
  settings = λ found. record {};
  go_together = λ found. true;
}
