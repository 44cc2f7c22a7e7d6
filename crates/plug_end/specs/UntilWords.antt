-- The words of `until`.
-- This project's own rule.
use Rattle.std.specs.Prelude.{ℕ, ◌||◌, List, [], ◌∷◌, Option, codes}
use Rattle.clap.specs.Walk.{Row}
use Rattle.plug_end.specs.UntilSettings.{until_together}
use Rattle.plug_end.specs.declared.until_conf.UntilConf.{UntilConf}
use Rattle.plug_end.specs.declared.limits.TheConstants.{MOST_SECONDS}
use Rattle.plugin_options.specs.declared.limits.TheConstants.{LAST_PID, MOST_NUMBER}
use Rattle.plugin_options.specs.Forms.{Form, number}
use Rattle.plugin_options.specs.Options.{OptionRow, flag, has_flag, has_value, read_value, value}
use Rattle.plugin_options.specs.OptionTable.{OptionTable}
use Rattle.plugin_options.specs.Number.{number_within}

-- a count, 1 to 2^60
abbrev pub until_form : Form
until_form = number 1 MOST_NUMBER

-- the options
abbrev pub until_rows : List OptionRow
until_rows = record { name = codes "packets"; kind = value until_form }
    ∷ record { name = codes "bytes"; kind = value until_form }
    ∷ record { name = codes "unit-start-count"; kind = value until_form }
    ∷ record { name = codes "seconds"; kind = value (number 0 MOST_SECONDS) }
    ∷ record { name = codes "pcr-pid"; kind = value (number 0 LAST_PID) }
    ∷ record { name = codes "exclude-last"; kind = flag }
    ∷ record { name = codes "joint-termination"; kind = flag }
    ∷ []

-- the count of an option
abbrev pub until_number : List ℕ → List Row → Option ℕ
until_number = read_value (number_within 1 MOST_NUMBER)

-- the settings of what is found
abbrev pub until_settings : List Row → UntilConf
until_settings found = record {
  packets = until_number (codes "packets") found;
  bytes = until_number (codes "bytes") found;
  unit_start_count = until_number (codes "unit-start-count") found;
  seconds = read_value (number_within 0 MOST_SECONDS) (codes "seconds") found;
  pcr_pid = read_value (number_within 0 LAST_PID) (codes "pcr-pid") found;
  exclude_last = has_flag (codes "exclude-last") found;
  joint_termination = has_flag (codes "joint-termination") found;
}

-- one of the counts, or the seconds, has to be given
abbrev pub until : OptionTable UntilConf
until = record {
  rows = until_rows;
  has_needed = λ found. has_value (codes "packets") found
      || (has_value (codes "bytes") found || (has_value (codes "unit-start-count") found || has_value (codes "seconds") found));
  settings = until_settings;
  go_together = λ found. until_together (until_settings found);
}
