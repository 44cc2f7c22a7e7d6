use Rattle.ts_demux.proofs.UncountedPackets.{completes-none}
use Rattle.ts_demux.proofs.table_laws.other_packets_complete_nothing.Goals as goal

pub returns : goal.returns
returns c = completes-none
