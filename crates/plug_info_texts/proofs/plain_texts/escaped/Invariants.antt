use Rattle.std.proofs.Common.{◌≡◌, ◌++◌, IsUtf8, string_bytes}
use Rattle.std.specs.Str.Iter.{chars_rest}
use Rattle.plug_info_texts.specs.PlainTexts.{escaped}
use Rattle.plug_info_texts.proofs.plain_texts.escaped.Given as goal

-- what is made of the text so far, with what is to be made of the rest
abbrev pub invariant-loop-character : goal.invariant-loop-character
invariant-loop-character l =
    IsUtf8 (chars_rest l.character-iterator) × (string_bytes l.made ++ escaped (chars_rest l.character-iterator) ≡ escaped l.text)
