-- The options of `cat`, and its settings from their values.
-- This project's own rule.
use Rattle.std.specs.Prelude.{◌∷◌, List, codes, true}
use Rattle.clap.specs.Walk.{Row}
use Rattle.plugin_options.specs.declared.limits.TheConstants.{LAST_PID}
use Rattle.plugin_options.specs.Forms.{ranges}
use Rattle.plugin_options.specs.Options.{OptionRow, has_flag, value}
use Rattle.plugin_options.specs.OptionTable.{OptionTable}
use Rattle.plug_edit.specs.EditWords.{number_found, pairs_found, pairs_row, ranges_found, version_rows}
use Rattle.plug_edit.specs.Versions.{versions_agree}
use Rattle.plug_edit.specs.declared.limits.TheConstants.{LAST_ID, LAST_VERSION}
use Rattle.plug_edit.specs.declared.cat_conf.EditCatConf.{EditCatConf}

-- the options
abbrev pub cat_rows : List OptionRow
cat_rows = pairs_row (codes "add-ca") (0, LAST_ID) (0, LAST_PID)
    ∷ record { name = codes "remove-casid"; kind = value (ranges LAST_ID) }
    ∷ record { name = codes "remove-pid"; kind = value (ranges LAST_PID) }
    ∷ version_rows

-- the settings from the values that were found
abbrev pub cat_settings : List Row → EditCatConf
cat_settings found = record {
  add_ca = pairs_found (codes "add-ca") (0, LAST_ID) (0, LAST_PID) found;
  remove_casid = ranges_found (codes "remove-casid") LAST_ID found;
  remove_pid = ranges_found (codes "remove-pid") LAST_PID found;
  new_version = number_found (codes "new-version") LAST_VERSION found;
  increment_version = has_flag (codes "increment-version") found;
}

-- no option has to be given
abbrev pub cat : OptionTable EditCatConf
cat = record {
  rows = cat_rows;
  has_needed = λ found. true;
  settings = cat_settings;
  go_together = λ found. versions_agree (cat_settings found).new_version (cat_settings found).increment_version;
}
