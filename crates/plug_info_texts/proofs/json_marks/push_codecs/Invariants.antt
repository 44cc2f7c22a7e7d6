use Rattle.std.proofs.Common.{◌≡◌, ◌++◌, drop, map}
use Rattle.std.specs.List.{flat_map}
use Rattle.std.specs.String.{string_bytes}
use Rattle.plug_info_texts.specs.InfoJson.{after_comma, quoted}
use Rattle.plug_info_texts.proofs.json_marks.push_codecs.Given as goal

-- the items so far, with the codecs that are left
abbrev pub invariant-loop-codec : goal.invariant-loop-codec
invariant-loop-codec l =
    string_bytes l.items ++ flat_map after_comma (map quoted (map (λ t. t.now) (drop l.codec-index l.codecs)))
    ≡ string_bytes l.fn.items ++ flat_map after_comma (map quoted (map (λ t. t.now) l.codecs))
