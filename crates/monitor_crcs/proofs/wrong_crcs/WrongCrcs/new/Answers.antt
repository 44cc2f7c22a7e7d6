use Rattle.std.proofs.Common.{refl}
use Rattle.monitor_crcs.proofs.Feeding.{stands-new, seen}
use Rattle.monitor_crcs.proofs.wrong_crcs.WrongCrcs.new.Goals as goal

pub returns : goal.returns
returns c = stands-new (seen c.args.pid c.new.result c.new-2.result.items c.unset.result) c.args.pid refl c.unset.ensures c.new-2.ensures.items c.new.ensures.fresh
