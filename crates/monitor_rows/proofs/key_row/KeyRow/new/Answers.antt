use Rattle.std.proofs.Common.{sym}
use Rattle.monitor_rows.proofs.Rowing.{no_row}
use Rattle.monitor_rows.proofs.key_row.KeyRow.new.Goals as goal

pub returns : goal.returns
returns c = λ rule limit none. no_row rule _ (sym limit) c.new.ensures.items none
