-- Texts and their bytes determine each other.
use Rattle.std.proofs.Common.{◌≡◌, ℕ, zero, suc, ◌<◌, Bool, true, false, List, [], ◌∷◌, refl, arith}
use Rattle.std.specs.Prelude.{◌&&◌, nat_eq, nat_le, not, if◌then◌else◌, Some, slice_index, IsUtf8}
use Rattle.std.specs.Str.{is_utf8}
use Rattle.std.proofs.lemmas.Bool.{leb-true, eqb-true}
use Rattle.std.proofs.lemmas.Option.{cond_some, same_Some}
use Rattle.std.proofs.lemmas.Str.{IsUtf8-from_ascii, IsUtf8-from_is_utf8}
use Rattle.ts_fields.specs.Reading.{is_printable, are_printable}
use Rattle.ts_fields.specs.Texts.{marked_text, text_of, text_bytes}
use Rattle.ts_fields.proofs.AgainLemmas.{both}

printable_ascii : (b : List ℕ) → are_printable b ≡ true → (i : ℕ) → slice_index b i < 128
printable_ascii [] all i = omega arith
printable_ascii (b ∷ bs) all zero =
    let parts = both (is_printable b) (are_printable bs) all in
    let range = both (nat_le 0x20 b) (nat_le b 0x7E) parts.0 in
    omega (arith, leb-true b 0x7E range.1)
printable_ascii (b ∷ bs) all (suc i) =
    let parts = both (is_printable b) (are_printable bs) all in
    printable_ascii bs parts.1 i

pub printable_utf8 : (b : List ℕ) → are_printable b ≡ true → IsUtf8 b
printable_utf8 b all = IsUtf8-from_ascii b (printable_ascii b all)

utf8_by : (bs : List ℕ) (b : Bool) → is_utf8 bs ≡ b → (IsUtf8 bs → ⊥) → b ≡ false
utf8_by bs true is other = absurd (other (IsUtf8-from_is_utf8 bs is))
utf8_by bs false is other = refl

pub not_utf8 : (bs : List ℕ) → (IsUtf8 bs → ⊥) → is_utf8 bs ≡ false
not_utf8 bs other = utf8_by bs (is_utf8 bs) refl other

not_true : (b : Bool) → not b ≡ true → b ≡ false
not_true true is = cc
not_true false is = refl

written_by : (printable : Bool) (b text : List ℕ) → are_printable b ≡ printable
    → (if printable then Some b else marked_text b) ≡ Some text → text_bytes text ≡ b
written_by true b text printable is = let same : b ≡ text = same_Some _ _ is in rw (← same, printable) refl
written_by false [] text printable is = cc
written_by false (mark ∷ t) text printable is =
    let parts = cond_some (nat_eq mark 0x15 && (is_utf8 t && not (are_printable t))) t text is in
    let tests = both (nat_eq mark 0x15) (is_utf8 t && not (are_printable t)) parts.0 in
    let plain = not_true (are_printable t) (both (is_utf8 t) (not (are_printable t)) tests.1).1 in
    let mark_is = eqb-true mark 0x15 tests.0 in
    rw (← parts.1, plain, mark_is) refl

-- the text of bytes is written as these bytes
pub text_is_written : (b text : List ℕ) → text_of b ≡ Some text → text_bytes text ≡ b
text_is_written b text is = written_by (are_printable b) b text refl is

read_by : (printable : Bool) (text : List ℕ) → are_printable text ≡ printable → is_utf8 text ≡ true
    → text_of (if printable then text else 0x15 ∷ text) ≡ Some text
read_by true text printable utf8 = rw printable refl
read_by false text printable utf8 = rw (utf8, printable) refl

-- a text that is written is read again
pub text_is_read : (text : List ℕ) → is_utf8 text ≡ true → text_of (text_bytes text) ≡ Some text
text_is_read text utf8 = read_by (are_printable text) text refl utf8
