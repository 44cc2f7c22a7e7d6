-- The words of `filter`.
-- This project's own rule.
use Rattle.std.specs.Prelude.{ℕ, ◌||◌, List, [], ◌∷◌, ◌++◌, codes, unwrap_or}
use Rattle.clap.specs.Walk.{Row}
use Rattle.plug_pass.specs.FilterSettings.{filter_together}
use Rattle.plug_pass.specs.declared.filter_conf.FilterConf.{FilterConf}
use Rattle.plugin_options.specs.declared.limits.TheConstants.{LAST_LABEL, LAST_PID}
use Rattle.plugin_options.specs.Forms.{ranges}
use Rattle.plugin_options.specs.Options.{OptionRow, flag, has_flag, has_value, read_value, value}
use Rattle.plugin_options.specs.OptionTable.{OptionTable}
use Rattle.plugin_options.specs.Ranges.{ranges_of}

-- the options that are conditions
abbrev pub condition_rows : List OptionRow
condition_rows = record { name = codes "pid"; kind = value (ranges LAST_PID) }
    ∷ record { name = codes "pcr"; kind = flag }
    ∷ record { name = codes "unit-start"; kind = flag }
    ∷ record { name = codes "scrambled"; kind = flag }
    ∷ record { name = codes "label"; kind = value (ranges LAST_LABEL) }
    ∷ []

-- the options
abbrev pub filter_rows : List OptionRow
filter_rows = condition_rows
    ++ (record { name = codes "negate"; kind = flag }
    ∷ record { name = codes "stuffing"; kind = flag }
    ∷ record { name = codes "set-label"; kind = value (ranges LAST_LABEL) }
    ∷ [])

-- the numbers and ranges of an option; none where it is not given
abbrev pub listed : ℕ → List ℕ → List Row → List (ℕ × ℕ)
listed most name found = unwrap_or (read_value (ranges_of most) name found) []

-- the settings of what is found
abbrev pub filter_settings : List Row → FilterConf
filter_settings found = record {
  pid = listed LAST_PID (codes "pid") found;
  pcr = has_flag (codes "pcr") found;
  unit_start = has_flag (codes "unit-start") found;
  scrambled = has_flag (codes "scrambled") found;
  label = listed LAST_LABEL (codes "label") found;
  negate = has_flag (codes "negate") found;
  stuffing = has_flag (codes "stuffing") found;
  set_label = listed LAST_LABEL (codes "set-label") found;
}

-- one of the five conditions has to be given
abbrev pub filter : OptionTable FilterConf
filter = record {
  rows = filter_rows;
  has_needed = λ found. has_value (codes "pid") found || (has_flag (codes "pcr") found
      || (has_flag (codes "unit-start") found || (has_flag (codes "scrambled") found
      || has_value (codes "label") found)));
  settings = filter_settings;
  go_together = λ found. filter_together (filter_settings found);
}
