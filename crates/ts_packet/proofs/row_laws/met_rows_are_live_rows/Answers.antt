use Rattle.ts_packet.proofs.RowLemmas.{met-more, met-rows}
use Rattle.ts_packet.proofs.row_laws.met_rows_are_live_rows.Goals as goal

pub returns-clause-more : goal.returns-clause-more
returns-clause-more c = met-more

pub returns-clause-rows : goal.returns-clause-rows
returns-clause-rows c = met-rows
