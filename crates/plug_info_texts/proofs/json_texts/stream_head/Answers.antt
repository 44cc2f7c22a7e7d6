use Rattle.std.proofs.Common.{ap, ◌∙◌}
use Rattle.plug_info_texts.specs.InfoJson.{number_or_null}
use Rattle.plug_info_texts.proofs.JsonLemmas.{head_is}
use Rattle.plug_info_texts.proofs.json_texts.stream_head.Goals as goal

pub returns : goal.returns
returns c =
    c.in_ok-text.ensures.ok
    ∙ head_is c.args.s.now.packets _ _ _ _ _ _ c.bytes_of-bytes.ensures (c.in_ok-id.ensures ∙ ap number_or_null c.widened.ensures) c.in_ok-rate.ensures
