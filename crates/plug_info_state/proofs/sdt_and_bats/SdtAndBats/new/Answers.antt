use Rattle.plug_info_state.proofs.SdtLemmas.{tables-new}
use Rattle.plug_info_state.proofs.sdt_and_bats.SdtAndBats.new.Goals as goal

pub returns : goal.returns
returns c = tables-new _ c.in_ok-sdt.ensures c.new-2.ensures
