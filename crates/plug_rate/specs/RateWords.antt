-- The options of `rate`. This project's own rule.
use Rattle.std.specs.Prelude.{List, [], ◌∷◌, codes, true, unwrap_or}
use Rattle.clap.specs.Walk.{Row}
use Rattle.plugin_options.specs.declared.limits.TheConstants.{LAST_PID, MOST_NUMBER}
use Rattle.plugin_options.specs.Forms.{number, ranges}
use Rattle.plugin_options.specs.Number.{number_within}
use Rattle.plugin_options.specs.Options.{OptionRow, read_value, value}
use Rattle.plugin_options.specs.OptionTable.{OptionTable}
use Rattle.plugin_options.specs.Ranges.{ranges_of}
use Rattle.plug_rate.specs.Bounds.{are_in_order}
use Rattle.plug_rate.specs.declared.limits.TheConstants.{DEFAULT_INTERVAL, LEAST_INTERVAL, MOST_INTERVAL}
use Rattle.plug_rate.specs.declared.rate_conf.RateConf.{RateConf}

-- the options
abbrev pub rate_rows : List OptionRow
rate_rows = record { name = codes "interval"; kind = value (number LEAST_INTERVAL MOST_INTERVAL) }
    ∷ record { name = codes "pid"; kind = value (ranges LAST_PID) }
    ∷ record { name = codes "min"; kind = value (number 0 MOST_NUMBER) }
    ∷ record { name = codes "max"; kind = value (number 0 MOST_NUMBER) }
    ∷ record { name = codes "pcr-pid"; kind = value (number 0 LAST_PID) }
    ∷ []

-- the settings of what is found
abbrev pub rate_settings : List Row → RateConf
rate_settings found = record {
  interval = unwrap_or (read_value (number_within LEAST_INTERVAL MOST_INTERVAL) (codes "interval") found) DEFAULT_INTERVAL;
  pid = unwrap_or (read_value (ranges_of LAST_PID) (codes "pid") found) [];
  bounds = record {
    least = read_value (number_within 0 MOST_NUMBER) (codes "min") found;
    most = read_value (number_within 0 MOST_NUMBER) (codes "max") found;
  };
  pcr_pid = read_value (number_within 0 LAST_PID) (codes "pcr-pid") found;
}

-- no option is mandatory
abbrev pub rate : OptionTable RateConf
rate = record {
  rows = rate_rows;
  has_needed = λ found. true;
  settings = rate_settings;
  go_together = λ found. are_in_order (rate_settings found).bounds;
}
