use Rattle.plug_psi.proofs.VariedLemmas.{one-edit}
use Rattle.plug_psi.proofs.varied_laws.an_edit_that_stays_is_one_edit.Goals as goal

pub returns : goal.returns
returns c = λ edit met packet. one-edit edit met packet
