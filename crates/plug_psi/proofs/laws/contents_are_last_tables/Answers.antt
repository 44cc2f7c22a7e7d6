use Rattle.plug_psi.proofs.LastTableLemmas.{are-last}
use Rattle.plug_psi.proofs.laws.contents_are_last_tables.Goals as goal

pub returns : goal.returns
returns c = are-last
