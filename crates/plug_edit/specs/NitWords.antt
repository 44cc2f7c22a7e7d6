-- The options of `nit`, and its settings from their values.
-- This project's own rule.
use Rattle.std.specs.Prelude.{◌∷◌, List, codes, true}
use Rattle.clap.specs.Walk.{Row}
use Rattle.plugin_options.specs.Forms.{ranges, text}
use Rattle.plugin_options.specs.Options.{OptionRow, has_flag, value, value_of}
use Rattle.plugin_options.specs.OptionTable.{OptionTable}
use Rattle.plug_edit.specs.EditWords.{number_found, number_row, ranges_found, version_rows}
use Rattle.plug_edit.specs.Versions.{versions_agree}
use Rattle.plug_edit.specs.declared.limits.TheConstants.{LAST_ID, LAST_VERSION}
use Rattle.plug_edit.specs.declared.nit_conf.EditNitConf.{EditNitConf}

-- the options
abbrev pub nit_rows : List OptionRow
nit_rows = record { name = codes "remove-ts"; kind = value (ranges LAST_ID) }
    ∷ number_row (codes "network-id") LAST_ID
    ∷ record { name = codes "network-name"; kind = value text }
    ∷ version_rows

-- the settings from the values that were found
abbrev pub nit_settings : List Row → EditNitConf
nit_settings found = record {
  remove_ts = ranges_found (codes "remove-ts") LAST_ID found;
  network_id = number_found (codes "network-id") LAST_ID found;
  network_name = value_of (codes "network-name") found;
  new_version = number_found (codes "new-version") LAST_VERSION found;
  increment_version = has_flag (codes "increment-version") found;
}

-- no option has to be given
abbrev pub nit : OptionTable EditNitConf
nit = record {
  rows = nit_rows;
  has_needed = λ found. true;
  settings = nit_settings;
  go_together = λ found. versions_agree (nit_settings found).new_version (nit_settings found).increment_version;
}
