-- Lemmas on texts as strings of JSON, character by character.
use Rattle.std.proofs.Common.{◌≡◌, ℕ, List, ◌++◌, length, ap, sym, ◌∙◌, append_assoc, append-nil, IsUtf8}
use Rattle.std.proofs.lemmas.List.{nil_from_length}
use Rattle.std.specs.Char.{encode_utf8}
use Rattle.std.specs.List.{flat_map}
use Rattle.std.specs.Str.{chars}
use Rattle.std.proofs.lemmas.Str.{chars_past_char, chars-nil}
use Rattle.plug_info_texts.specs.PlainTexts.{escaped, escaped_character}

-- a text with one more character, of which the rest follows
pub escaped_more : (text rest : List ℕ) (c : ℕ) (made made_new whole : List ℕ) → IsUtf8 text → text ≡ encode_utf8 c ++ rest
    → made ++ escaped text ≡ whole → made_new ≡ made ++ escaped_character c → made_new ++ escaped rest ≡ whole
escaped_more text rest c made made_new whole utf8 parts so_far pushed =
    ap (λ (xs : List ℕ). xs ++ escaped rest) pushed
    ∙ (append_assoc made (escaped_character c) (escaped rest)
    ∙ (ap (λ (cs : List ℕ). made ++ flat_map escaped_character cs) (sym (chars_past_char text rest c utf8 parts)) ∙ so_far))

-- nothing follows
pub escaped_empty : (rest made whole : List ℕ) → length rest ≡ 0 → made ++ escaped rest ≡ whole → made ≡ whole
escaped_empty rest made whole none so_far =
    sym (append-nil made) ∙ (ap (λ (cs : List ℕ). made ++ flat_map escaped_character cs) (sym (ap chars (nil_from_length rest none) ∙ chars-nil)) ∙ so_far)
