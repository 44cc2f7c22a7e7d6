-- The options of `pat`, and its settings from their values.
-- This project's own rule.
use Rattle.std.specs.Prelude.{[], ◌∷◌, List, codes, true, unwrap_or}
use Rattle.clap.specs.Walk.{Row}
use Rattle.plugin_options.specs.declared.limits.TheConstants.{LAST_PID}
use Rattle.plugin_options.specs.Forms.{ranges_from}
use Rattle.plugin_options.specs.Options.{OptionRow, has_flag, read_value, value}
use Rattle.plugin_options.specs.OptionTable.{OptionTable}
use Rattle.plugin_options.specs.Ranges.{ranges_within}
use Rattle.plug_edit.specs.EditWords.{number_found, number_row, pairs_found, pairs_row, version_rows}
use Rattle.plug_edit.specs.Versions.{versions_agree}
use Rattle.plug_edit.specs.declared.limits.TheConstants.{LAST_ID, LAST_VERSION}
use Rattle.plug_edit.specs.declared.pat_conf.EditPatConf.{EditPatConf}

-- the options; a service has a number above 0
abbrev pub pat_rows : List OptionRow
pat_rows = pairs_row (codes "add-service") (1, LAST_ID) (0, LAST_PID)
    ∷ record { name = codes "remove-service"; kind = value (ranges_from 1 LAST_ID) }
    ∷ number_row (codes "ts-id") LAST_ID
    ∷ number_row (codes "nit") LAST_PID
    ∷ version_rows

-- the settings from the values that were found
abbrev pub pat_settings : List Row → EditPatConf
pat_settings found = record {
  add_service = pairs_found (codes "add-service") (1, LAST_ID) (0, LAST_PID) found;
  remove_service = unwrap_or (read_value (ranges_within 1 LAST_ID) (codes "remove-service") found) [];
  ts_id = number_found (codes "ts-id") LAST_ID found;
  nit = number_found (codes "nit") LAST_PID found;
  new_version = number_found (codes "new-version") LAST_VERSION found;
  increment_version = has_flag (codes "increment-version") found;
}

-- no option has to be given
abbrev pub pat : OptionTable EditPatConf
pat = record {
  rows = pat_rows;
  has_needed = λ found. true;
  settings = pat_settings;
  go_together = λ found. versions_agree (pat_settings found).new_version (pat_settings found).increment_version;
}
