use Rattle.monitor_rows.proofs.Rowing.{names_stay}
use Rattle.monitor_rows.proofs.row_laws.names_that_stay_leave_the_row.Goals as goal

pub returns : goal.returns
returns c = λ rule row history packet labels has same. names_stay rule row history packet labels has same
