-- The options of `count`. This project's own rule.
use Rattle.std.specs.Prelude.{List, [], ◌∷◌, codes, true, unwrap_or}
use Rattle.plug_watch.specs.declared.count_conf.CountConf.{CountConf}
use Rattle.plugin_options.specs.declared.limits.TheConstants.{LAST_PID}
use Rattle.plugin_options.specs.Forms.{ranges}
use Rattle.plugin_options.specs.Options.{OptionRow, flag, has_flag, read_value, value}
use Rattle.plugin_options.specs.OptionTable.{OptionTable}
use Rattle.plugin_options.specs.Ranges.{ranges_of}

-- the options
abbrev pub count_rows : List OptionRow
count_rows = record { name = codes "pid"; kind = value (ranges LAST_PID) }
    ∷ record { name = codes "negate"; kind = flag }
    ∷ record { name = codes "all"; kind = flag }
    ∷ record { name = codes "total"; kind = flag }
    ∷ []

-- no option is mandatory
abbrev pub count : OptionTable CountConf
count = record {
  rows = count_rows;
  has_needed = λ found. true;
  settings = λ found. record {
    pid = unwrap_or (read_value (ranges_of LAST_PID) (codes "pid") found) [];
    negate = has_flag (codes "negate") found;
    all = has_flag (codes "all") found;
    total = has_flag (codes "total") found;
  };
  go_together = λ found. true;
}
