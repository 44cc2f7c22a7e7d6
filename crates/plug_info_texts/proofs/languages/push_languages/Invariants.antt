use Rattle.std.proofs.Common.{◌≡◌, ◌++◌, drop, map}
use Rattle.std.specs.List.{flat_map}
use Rattle.std.specs.String.{string_bytes}
use Rattle.plug_info_texts.specs.InfoTexts.{language_text}
use Rattle.plug_info_texts.proofs.languages.push_languages.Given as goal

-- the text so far, with the languages that are left
abbrev pub invariant-loop-language : goal.invariant-loop-language
invariant-loop-language l =
    string_bytes l.text ++ flat_map language_text (map (λ t. t.now) (drop l.language-index l.languages))
    ≡ string_bytes l.fn.text ++ flat_map language_text (map (λ t. t.now) l.languages)
