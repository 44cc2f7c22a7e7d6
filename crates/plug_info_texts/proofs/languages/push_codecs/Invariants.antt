use Rattle.std.proofs.Common.{◌≡◌, ◌++◌, drop, map}
use Rattle.std.specs.List.{flat_map}
use Rattle.std.specs.String.{string_bytes}
use Rattle.plug_info_texts.specs.InfoTexts.{codec_text}
use Rattle.plug_info_texts.proofs.languages.push_codecs.Given as goal

-- the text so far, with the codecs that are left
abbrev pub invariant-loop-codec : goal.invariant-loop-codec
invariant-loop-codec l =
    string_bytes l.text ++ flat_map codec_text (map (λ t. t.now) (drop l.codec-index l.codecs))
    ≡ string_bytes l.fn.text ++ flat_map codec_text (map (λ t. t.now) l.codecs)
