use Rattle.std.proofs.Common.{ap, ◌∙◌}
use Rattle.plug_info_texts.specs.InfoTexts.{number_or_none}
use Rattle.plug_info_texts.proofs.LineLemmas.{head_is}
use Rattle.plug_info_texts.proofs.line_texts.stream_head.Goals as goal

pub returns : goal.returns
returns c =
    c.in_ok-text.ensures.ok
    ∙ head_is c.args.s.now.packets _ _ _ _ _ _ c.bytes_of-bytes.ensures (c.in_ok-id.ensures ∙ ap number_or_none c.widened.ensures) c.in_ok-rate.ensures
