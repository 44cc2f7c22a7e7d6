-- The options of `info`. This project's own rule.
use Rattle.std.specs.Prelude.{List, [], ◌∷◌, true, codes}
use Rattle.plug_info.specs.declared.info_conf.InfoConf.{InfoConf}
use Rattle.plugin_options.specs.Options.{OptionRow, flag, has_flag}
use Rattle.plugin_options.specs.OptionTable.{OptionTable}

-- the options
abbrev pub info_rows : List OptionRow
info_rows = record { name = codes "json"; kind = flag } ∷ []

-- no option is mandatory
abbrev pub info : OptionTable InfoConf
info = record {
  rows = info_rows;
  has_needed = λ found. true;
  settings = λ found. record { json = has_flag (codes "json") found };
  go_together = λ found. true;
}
