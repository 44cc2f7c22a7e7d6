use Rattle.ts_demux.proofs.Little.{rest-fresh}
use Rattle.ts_demux.proofs.reader.StretchReader.reset.Goals as goal

pub returns : goal.returns
returns c = record { rest = rest-fresh c.close.new.self c.close.ensures.last c.close.ensures.closed c.close.ensures.empty }
