use Rattle.std.proofs.lemmas.Str.{IsUtf8-past_char}
use Rattle.plug_info_texts.proofs.PlainLemmas.{escaped_empty, escaped_more}
use Rattle.plug_info_texts.proofs.plain_texts.escaped.Goals as goal

pub loop-character-preserved : goal.loop-character-preserved
loop-character-preserved c =
    let held = c.loop-character.invariant in
    let parts = c.in-Some.ensures.steps.0 in
    (IsUtf8-past_char _ _ c.in-Some.character held.0 parts, escaped_more _ _ c.in-Some.character _ _ _ held.0 parts held.1 c.in_ok-push_escaped.ensures)

pub returns : goal.returns
returns c = escaped_empty _ _ _ c.in-None.ensures.steps.0.0 c.loop-character.invariant.1
