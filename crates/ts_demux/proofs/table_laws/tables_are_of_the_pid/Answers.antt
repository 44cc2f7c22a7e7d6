use Rattle.ts_demux.proofs.UncountedPackets.{same-tables}
use Rattle.ts_demux.proofs.table_laws.tables_are_of_the_pid.Goals as goal

pub returns : goal.returns
returns c = same-tables
