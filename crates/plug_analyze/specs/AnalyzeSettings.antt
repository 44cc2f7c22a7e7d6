-- Valid settings of `analyze`. This project's own rule.
use Rattle.plug_analyze.specs.declared.analyze_conf.AnalyzeConf.{AnalyzeConf}

-- it has no settings
abbrev pub IsValidAnalyze : AnalyzeConf → Type 0
IsValidAnalyze c = Unit {0}
