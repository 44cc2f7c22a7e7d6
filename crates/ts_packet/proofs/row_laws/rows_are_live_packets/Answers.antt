use Rattle.ts_packet.proofs.RowLemmas.{rows-packets}
use Rattle.ts_packet.proofs.row_laws.rows_are_live_packets.Goals as goal

pub returns : goal.returns
returns c = rows-packets
