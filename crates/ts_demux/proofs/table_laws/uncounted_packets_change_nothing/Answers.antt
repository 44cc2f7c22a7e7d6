use Rattle.ts_demux.proofs.UncountedPackets.{holds-uncounted}
use Rattle.ts_demux.proofs.table_laws.uncounted_packets_change_nothing.Goals as goal

pub returns : goal.returns
returns c = λ tables pid taken packet h e. holds-uncounted tables.demux tables.assembly pid taken packet e h
