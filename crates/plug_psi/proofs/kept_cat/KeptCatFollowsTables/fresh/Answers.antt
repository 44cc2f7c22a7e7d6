use Rattle.std.proofs.Common.{sym}
use Rattle.plug_psi.specs.CatInForce.{current_cat}
use Rattle.plug_psi.proofs.FoundLemmas.{found-none}
use Rattle.plug_psi.proofs.kept_cat.KeptCatFollowsTables.fresh.Goals as goal

pub returns : goal.returns
returns c = sym (found-none current_cat c.args._pid)
