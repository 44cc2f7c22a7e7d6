use Rattle.plug_psi.proofs.FoundLemmas.{last-is}
use Rattle.plug_psi.proofs.laws.last_found_is_the_last.Goals as goal

pub returns : goal.returns
returns c = last-is
