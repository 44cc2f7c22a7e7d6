use Rattle.ts_demux.proofs.Feeding.{takes_in-uncounted}
use Rattle.ts_demux.proofs.laws.other_packets_change_nothing.Goals as goal

pub returns : goal.returns
returns c = λ demux packet apart. takes_in-uncounted demux packet apart
