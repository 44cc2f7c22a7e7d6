use Rattle.monitor_crcs.proofs.Little.{rest-fresh}
use Rattle.monitor_crcs.proofs.reader.PieceReader.reset.Goals as goal

pub returns : goal.returns
returns c = record { rest = rest-fresh c.close.new.self c.close.ensures.last c.close.ensures.closed c.close.ensures.empty }
