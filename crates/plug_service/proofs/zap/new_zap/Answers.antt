use Rattle.std.proofs.Common.{zero-le}
use Rattle.plugin_trait.proofs.FindLemmas.{find-first}
use Rattle.plug_service.proofs.zap.new_zap.Goals as goal

pub returns-clause-fresh : goal.returns-clause-fresh
returns-clause-fresh c = ((c.in_ok-new.ensures.stands, find-first _ _ c.in_ok-new.ensures.found), zero-le)
