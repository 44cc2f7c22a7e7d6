-- The words of `time`. This project's own rule.
use Rattle.std.specs.Prelude.{List, [], ◌∷◌, codes, pos, true, unwrap_or}
use Rattle.plugin_options.specs.Forms.{signed}
use Rattle.plugin_options.specs.Options.{OptionRow, has_value, read_value, value}
use Rattle.plugin_options.specs.OptionTable.{OptionTable}
use Rattle.plugin_options.specs.Signed.{signed_within}
use Rattle.plug_time.specs.declared.numbers.TheConstants.{LEAST_SHIFT, MOST_SHIFT}
use Rattle.plug_time.specs.declared.time_conf.TimeConf.{TimeConf}

-- the options
abbrev pub time_rows : List OptionRow
time_rows = record { name = codes "shift"; kind = value (signed LEAST_SHIFT MOST_SHIFT) } ∷ []

-- the seconds have to be given
abbrev pub time : OptionTable TimeConf
time = record {
  rows = time_rows;
  has_needed = has_value (codes "shift");
  settings = λ found. record { shift = unwrap_or (read_value (signed_within LEAST_SHIFT MOST_SHIFT) (codes "shift") found) (pos 0) };
  go_together = λ found. true;
}
