-- Valid settings of `tables`.
-- This project's own rule.
use Rattle.ts_packet.specs.declared.numbers.TheConstants.{PID_COUNT}
use Rattle.plugin_options.specs.NumberSet.{AllBelow}
use Rattle.plug_tables.specs.declared.tables_conf.TablesConf.{TablesConf}

-- each number is in its range, and no two settings exclude each other
pub record IsValidTables (c : TablesConf) : Type 0 where
  pub pids : AllBelow PID_COUNT c.pid
  pub tids : AllBelow 256 c.tid
