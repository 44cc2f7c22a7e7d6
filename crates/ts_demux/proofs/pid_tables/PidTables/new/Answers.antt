use Rattle.ts_demux.proofs.TablesAfter.{holds_new}
use Rattle.ts_demux.proofs.pid_tables.PidTables.new.Goals as goal

pub returns : goal.returns
returns c = holds_new c.in_ok-demux.demux c.in_ok-assembly.assembly c.args.pid c.in_ok-demux.ensures c.in_ok-assembly.ensures
