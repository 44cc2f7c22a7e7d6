-- Lemmas on pieces with a wrong CRC.
use Rattle.std.proofs.Common.{◌≡◌, ◌≢◌, ℕ, ◌+◌, ◌<◌, ◌≤◌, List, length, All, Bool, true, false, not, ◌&&◌, ◌==◌, nat_le, if◌then◌else◌, ap, sym, ◌∙◌, refl, arith}
use Rattle.std.proofs.lemmas.Bool.{false≢true}
use Rattle.std.proofs.lemmas.Bool.Decides.{nat_tests}
use Rattle.ts_section.specs.Crc.{crc_of}
use Rattle.ts_section.specs.SectionFields.{is_long, last_number_of, number_of, section_length_of, table_id_of}
use Rattle.ts_section.specs.ValidSection.{IsSection}
use Rattle.monitor_crcs.specs.WrongCrcs.{has_crc, is_in_order, is_spoiled}
use Rattle.monitor_crcs.specs.declared.tables.TheConstants.{TOT_ID}

-- a number that is 0
zero-not : (n : ℕ) → n ≡ 0 → not (n == 0) ≡ false
zero-not n is = grind (arith, nat_tests, is)

not-zero : (n : ℕ) → not (n == 0) ≡ false → n ≡ 0
not-zero n is = grind (arith, nat_tests, is)

and-no : (a b : Bool) → b ≡ false → (a && b) ≡ false
and-no true b is = is
and-no false b is = refl

left-of : (a b : Bool) → (a && b) ≡ true → a ≡ true
left-of true b is = refl
left-of false b is = absurd (false≢true is)

right-of : (a b : Bool) → (a && b) ≡ true → b ≡ true
right-of true b is = is
right-of false b is = absurd (false≢true is)

at-most : (m n : ℕ) → nat_le m n ≡ true → m ≤ n
at-most m n is = grind (arith, nat_tests, is)

-- a crc of 0 is right
pub right-crc : (piece : List ℕ) → crc_of piece ≡ 0 → is_spoiled piece ≡ false
unfolding is_spoiled
right-crc piece is = and-no (has_crc piece) (not (crc_of piece == 0)) (zero-not (crc_of piece) is)

-- what has a CRC and is not spoiled has a crc of 0
crc-right : (piece : List ℕ) → has_crc piece ≡ true → is_spoiled piece ≡ false → crc_of piece ≡ 0
unfolding is_spoiled
crc-right piece has none =
    not-zero (crc_of piece) (sym (ap (λ (b : Bool). b && not (crc_of piece == 0)) has) ∙ none)

-- a whole piece of the long form that is right
pub whole_piece : (piece : List ℕ) → All (λ x. x < 256) piece → table_id_of piece ≢ 255 → section_length_of piece ≤ 4093
    → length piece ≡ 3 + section_length_of piece → is_long piece ≡ true → has_crc piece ≡ true → is_spoiled piece ≡ false → IsSection piece
whole_piece piece bytes no_stuffing in_range whole long has none =
    let parts : (nat_le 9 (section_length_of piece) && is_in_order piece) ≡ true =
    sym (ap (λ (b : Bool). if b then nat_le 9 (section_length_of piece) && is_in_order piece else table_id_of piece == TOT_ID) long) ∙ has in
    record {
      bytes = bytes;
      no_stuffing = no_stuffing;
      in_range = in_range;
      whole = whole;
      long = λ is. record {
        room = at-most 9 (section_length_of piece) (left-of (nat_le 9 (section_length_of piece)) (is_in_order piece) parts);
        numbers = at-most (number_of piece) (last_number_of piece) (right-of (nat_le 9 (section_length_of piece)) (is_in_order piece) parts);
        crc = crc-right piece has none;
      };
    }
