use Rattle.monitor_rows.proofs.Rowing.{dropped_row}
use Rattle.monitor_rows.proofs.row_laws.a_dropped_cell_leaves_the_row.Goals as goal

pub returns : goal.returns
returns c = λ rule row history has. dropped_row rule row history has
