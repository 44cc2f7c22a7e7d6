use Rattle.plug_info_texts.proofs.RoundLemmas.{rounded_is}
use Rattle.plug_info_texts.proofs.rounding.rounded.Goals as goal

pub returns : goal.returns
returns c = rounded_is _ _ _ _ _ _ c.from.ensures c.from-2.ensures c.from-whole.ensures
