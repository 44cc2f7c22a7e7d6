-- The options of `sdt`, and its settings from their values.
-- This project's own rule.
use Rattle.std.specs.Prelude.{[], ◌∷◌, ◌++◌, List, codes, true}
use Rattle.clap.specs.Walk.{Row}
use Rattle.plugin_options.specs.Forms.{ranges, text}
use Rattle.plugin_options.specs.Options.{OptionRow, has_flag, value, value_of}
use Rattle.plugin_options.specs.OptionTable.{OptionTable}
use Rattle.plug_edit.specs.EditWords.{number_found, number_row, ranges_found, version_rows}
use Rattle.plug_edit.specs.SdtSettings.{sdt_together}
use Rattle.plug_edit.specs.declared.limits.TheConstants.{LAST_ID, LAST_MODE, LAST_STATUS, LAST_TYPE, LAST_VERSION}
use Rattle.plug_edit.specs.declared.sdt_conf.EditSdtConf.{EditSdtConf}

-- the options that name services, and those on a service descriptor
abbrev pub service_rows : List OptionRow
service_rows = record { name = codes "remove-service"; kind = value (ranges LAST_ID) }
    ∷ number_row (codes "service") LAST_ID
    ∷ record { name = codes "name"; kind = value text }
    ∷ record { name = codes "provider"; kind = value text }
    ∷ number_row (codes "type") LAST_TYPE
    ∷ []

-- the options
abbrev pub sdt_rows : List OptionRow
sdt_rows = service_rows
    ++ (number_row (codes "running-status") LAST_STATUS
    ∷ number_row (codes "free-ca-mode") LAST_MODE
    ∷ version_rows)

-- the settings from the values that were found
abbrev pub sdt_settings : List Row → EditSdtConf
sdt_settings found = record {
  remove_service = ranges_found (codes "remove-service") LAST_ID found;
  service = number_found (codes "service") LAST_ID found;
  name = value_of (codes "name") found;
  provider = value_of (codes "provider") found;
  service_type = number_found (codes "type") LAST_TYPE found;
  running_status = number_found (codes "running-status") LAST_STATUS found;
  free_ca_mode = number_found (codes "free-ca-mode") LAST_MODE found;
  new_version = number_found (codes "new-version") LAST_VERSION found;
  increment_version = has_flag (codes "increment-version") found;
}

-- no option has to be given; a change of a service needs its number
abbrev pub sdt : OptionTable EditSdtConf
sdt = record {
  rows = sdt_rows;
  has_needed = λ found. true;
  settings = sdt_settings;
  go_together = λ found. sdt_together (sdt_settings found);
}
