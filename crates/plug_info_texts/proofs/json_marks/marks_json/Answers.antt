use Rattle.std.proofs.Common.{◌∙◌}
use Rattle.plug_info_texts.proofs.MarkLemmas.{marks_are}
use Rattle.plug_info_texts.proofs.json_marks.marks_json.Goals as goal

pub returns : goal.returns
returns c =
    c.in_ok-text.ensures.ok
    ∙ marks_are _ _ _ _ _ _ _ _ c.in_ok-languages.ensures c.in_ok-codecs.ensures c.in_ok-audio.ensures c.in_ok-cas.ensures
