use Rattle.std.proofs.Common.{ap, ◌∙◌}
use Rattle.plug_info_texts.specs.InfoJson.{name_or_null}
use Rattle.plug_info_texts.proofs.JsonLemmas.{kind_parts}
use Rattle.plug_info_texts.proofs.json_texts.component_head.Goals as goal

pub returns : goal.returns
returns c = c.in_ok-text.ensures.ok ∙ ap (kind_parts c.args.pid c.args.kind) (c.in_ok-name.ensures ∙ ap name_or_null c.stream_type_name.ensures)
