use Rattle.std.proofs.Common.{ap, ◌∙◌}
use Rattle.plug_info_texts.specs.InfoTexts.{name_or_unknown}
use Rattle.plug_info_texts.proofs.LineLemmas.{kind_parts}
use Rattle.plug_info_texts.proofs.line_texts.component_head.Goals as goal

pub returns : goal.returns
returns c =
    c.in_ok-text.ensures.ok
    ∙ ap (kind_parts c.args.pid c.args.service c.args.kind) (c.name_or_unknown-name.ensures ∙ ap name_or_unknown c.stream_type_name.ensures)
