-- The options of `timestamps`. This project's own rule.
use Rattle.std.specs.Prelude.{List, [], ◌∷◌, codes, true, unwrap_or}
use Rattle.plugin_options.specs.declared.limits.TheConstants.{LAST_PID}
use Rattle.plugin_options.specs.Forms.{ranges}
use Rattle.plugin_options.specs.Options.{OptionRow, flag, has_flag, read_value, value}
use Rattle.plugin_options.specs.OptionTable.{OptionTable}
use Rattle.plugin_options.specs.Ranges.{ranges_of}
use Rattle.plug_times.specs.StampTexts.{shown_of}
use Rattle.plug_times.specs.declared.timestamps_conf.TimestampsConf.{TimestampsConf}

-- the options
abbrev pub timestamps_rows : List OptionRow
timestamps_rows = record { name = codes "pid"; kind = value (ranges LAST_PID) }
    ∷ record { name = codes "pcr"; kind = flag }
    ∷ record { name = codes "pts"; kind = flag }
    ∷ record { name = codes "dts"; kind = flag }
    ∷ record { name = codes "csv"; kind = flag }
    ∷ []

-- no option is mandatory
abbrev pub timestamps : OptionTable TimestampsConf
timestamps = record {
  rows = timestamps_rows;
  has_needed = λ found. true;
  settings = λ found. record {
    pid = unwrap_or (read_value (ranges_of LAST_PID) (codes "pid") found) [];
    shown = shown_of (has_flag (codes "pcr") found) (has_flag (codes "pts") found) (has_flag (codes "dts") found)
        (has_flag (codes "csv") found);
  };
  go_together = λ found. true;
}
