use Rattle.plug_psi.proofs.EditorLemmas.{replaced-whole}
use Rattle.plug_psi.proofs.laws.later_packets_change_nothing.Goals as goal

pub returns : goal.returns
returns c = replaced-whole
