use Rattle.std.proofs.Common.{zero-le}
use Rattle.plugin_trait.proofs.FindLemmas.{find-first}
use Rattle.plug_time.proofs.time.new_time.Goals as goal

pub returns-clause-fresh : goal.returns-clause-fresh
returns-clause-fresh c = (find-first _ _ c.none.ensures, zero-le)
