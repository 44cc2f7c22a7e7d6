use Rattle.std.proofs.Common.{◌≡◌, ◌++◌, drop, map}
use Rattle.std.specs.List.{flat_map}
use Rattle.std.specs.String.{string_bytes}
use Rattle.plug_info_texts.specs.InfoJson.{after_comma, language_json}
use Rattle.plug_info_texts.proofs.json_marks.push_languages.Given as goal

-- the items so far, with the languages that are left
abbrev pub invariant-loop-language : goal.invariant-loop-language
invariant-loop-language l =
    string_bytes l.items ++ flat_map after_comma (map language_json (map (λ t. t.now) (drop l.language-index l.languages)))
    ≡ string_bytes l.fn.items ++ flat_map after_comma (map language_json (map (λ t. t.now) l.languages))
