use Rattle.std.proofs.Common.{◌∙◌}
use Rattle.plug_info_texts.proofs.JsonLemmas.{end_is}
use Rattle.plug_info_texts.proofs.json_texts.service_tail.Goals as goal

pub returns : goal.returns
returns c = c.in_ok-text.ensures.ok ∙ end_is c.args.pid _ _ _ _ c.args.components.now c.in_ok-pcr.ensures c.in_ok-portion.ensures
