-- The words of `slice`.
-- This project's own rule.
use Rattle.std.specs.Prelude.{ℕ, ◌||◌, List, [], ◌∷◌, Option, codes}
use Rattle.clap.specs.Walk.{Row}
use Rattle.plug_pass.specs.SliceSettings.{slice_together}
use Rattle.plug_pass.specs.declared.slice_conf.SliceConf.{SliceConf}
use Rattle.plugin_options.specs.declared.limits.TheConstants.{LAST_PID, MOST_NUMBER}
use Rattle.plugin_options.specs.Forms.{Form, number}
use Rattle.plugin_options.specs.Options.{OptionRow, flag, has_flag, has_value, read_value, value}
use Rattle.plugin_options.specs.OptionTable.{OptionTable}
use Rattle.plugin_options.specs.Number.{number_within}

-- a number of packets or of milliseconds, 0 to 2^60
abbrev pub slice_form : Form
slice_form = number 0 MOST_NUMBER

-- the options
abbrev pub slice_rows : List OptionRow
slice_rows = record { name = codes "drop"; kind = value slice_form }
    ∷ record { name = codes "null"; kind = value slice_form }
    ∷ record { name = codes "pass"; kind = value slice_form }
    ∷ record { name = codes "stop"; kind = value slice_form }
    ∷ record { name = codes "milliseconds"; kind = flag }
    ∷ record { name = codes "pcr-pid"; kind = value (number 0 LAST_PID) }
    ∷ []

-- the number of an option
abbrev pub slice_number : List ℕ → List Row → Option ℕ
slice_number = read_value (number_within 0 MOST_NUMBER)

-- the settings of what is found
abbrev pub slice_settings : List Row → SliceConf
slice_settings found = record {
  drop = slice_number (codes "drop") found;
  null = slice_number (codes "null") found;
  pass = slice_number (codes "pass") found;
  stop = slice_number (codes "stop") found;
  milliseconds = has_flag (codes "milliseconds") found;
  pcr_pid = read_value (number_within 0 LAST_PID) (codes "pcr-pid") found;
}

-- one of the four has to be given
abbrev pub slice : OptionTable SliceConf
slice = record {
  rows = slice_rows;
  has_needed = λ found. has_value (codes "drop") found || (has_value (codes "null") found
      || (has_value (codes "pass") found || has_value (codes "stop") found));
  settings = slice_settings;
  go_together = λ found. slice_together (slice_settings found);
}
