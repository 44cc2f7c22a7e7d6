use Rattle.std.proofs.Common.{refl}
use Rattle.ts_demux.proofs.Little.{rest-fresh}
use Rattle.ts_demux.proofs.reader.StretchReader.new.Goals as goal

pub returns-clause-rest : goal.returns-clause-rest
returns-clause-rest c = rest-fresh _ refl refl c.new.ensures.items
