use Rattle.std.proofs.Common.{refl}
use Rattle.monitor_crcs.proofs.Little.{rest-fresh}
use Rattle.monitor_crcs.proofs.reader.PieceReader.new.Goals as goal

pub returns-clause-rest : goal.returns-clause-rest
returns-clause-rest c = rest-fresh _ refl refl c.new.ensures.items
