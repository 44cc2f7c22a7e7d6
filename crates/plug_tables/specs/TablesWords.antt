-- The options of `tables`.
-- This project's own rule.
use Rattle.std.specs.Prelude.{List, [], ◌∷◌, codes, true, unwrap_or}
use Rattle.plugin_options.specs.declared.limits.TheConstants.{LAST_PID}
use Rattle.plugin_options.specs.Forms.{ranges}
use Rattle.plugin_options.specs.Options.{OptionRow, read_value, value}
use Rattle.plugin_options.specs.OptionTable.{OptionTable}
use Rattle.plugin_options.specs.Ranges.{ranges_of}
use Rattle.plug_tables.specs.declared.limits.TheConstants.{LAST_TABLE_ID}
use Rattle.plug_tables.specs.declared.tables_conf.TablesConf.{TablesConf}

-- the options
abbrev pub tables_rows : List OptionRow
tables_rows = record { name = codes "pid"; kind = value (ranges LAST_PID) }
    ∷ record { name = codes "tid"; kind = value (ranges LAST_TABLE_ID) }
    ∷ []

-- no option has to be given
abbrev pub tables : OptionTable TablesConf
tables = record {
  rows = tables_rows;
  has_needed = λ found. true;
  settings = λ found. record {
    pid = unwrap_or (read_value (ranges_of LAST_PID) (codes "pid") found) [];
    tid = unwrap_or (read_value (ranges_of LAST_TABLE_ID) (codes "tid") found) [];
  };
  go_together = λ found. true;
}
