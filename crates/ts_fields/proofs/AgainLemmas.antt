-- What is written is read again.
use Rattle.std.proofs.Common.{◌≡◌, ℕ, zero, suc, ◌+◌, ◌-◌, ◌*◌, ◌/◌, ◌%◌, ◌^◌, ◌<◌, ◌≤◌, Bool, true, false, List, [], ◌∷◌, ◌++◌, length, take, drop, refl, sym, ap, ◌∙◌, arith, append_assoc, append-nil, pow-suc, length-append}
use Rattle.std.specs.Prelude.{nat_eq, nat_le, nat_lt, ◌&&◌, ◌||◌, Option, Some, None, option_to_list, slice_get, if◌then◌else◌}
use Rattle.std.proofs.lemmas.Bool.{le-leb, leb-true, ltb-true, eqb-true, eq-eqb, lt-ltb}
use Rattle.std.proofs.Math.Arith.{mod-mul}
use Rattle.std.proofs.Math.Nat.{mod-eq_of_lt}
use Rattle.std.proofs.lemmas.Nat.{pow_pos}
use Rattle.std.proofs.Math.Seq.{take-append_seam, drop-append_seam}
use Rattle.ts_fields.specs.declared.field.Kind.{Kind}
use Rattle.ts_fields.specs.declared.field.Kind.TheVariants.{Number, Reserved, Zeros, Ones, Free, Flag, Start, Duration, Decimal, Language, CountedText, CountedHex, Text, Hex}
use Rattle.ts_fields.specs.Bits.{bits, bits_of}
use Rattle.ts_fields.specs.Layout.{Row, Held, number, bytes}
use Rattle.ts_fields.specs.Reading.{read_number, read_bytes, read_decimal, read_rest, read_field, read_rows, are_printable, is_printable}
use Rattle.ts_fields.specs.Spelling.{spell_decimal, spell_field, spell_rows, holds}
use Rattle.ts_fields.specs.SoundRows.{goes_to_end, is_open, is_nil, ends_last}
use Rattle.ts_fields.specs.Fitting.{fits, field_fits, are_bytes}
use Rattle.ts_fields.specs.Times.{is_start, is_time}
use Rattle.ts_fields.proofs.BitLemmas.{length-bits, length-bits_of, number_of-bits}
use Rattle.ts_fields.proofs.WriteLemmas.{ten_pos}

-- both halves of a test
pub both : (a b : Bool) → (a && b) ≡ true → (a ≡ true) × (b ≡ true)
both true b h = (refl, h)
both false b h = cc

either_true : (a b : Bool) → b ≡ true → (a || b) ≡ true
either_true true b h = refl
either_true false b h = h

by_test : (a b : Bool) → (if a then false else b) ≡ true → b ≡ true
by_test true b h = cc
by_test false b h = h

pub number_again : (n v : ℕ) (rest : List Bool) → read_number n (bits n v ++ rest) ≡ Some (v % 2 ^ n, rest)
unfolding read_number
number_again n v rest =
    let long : n ≤ length (bits n v ++ rest) = omega (arith, length-append (bits n v) rest, length-bits n v) in
    let test = le-leb n (length (bits n v ++ rest)) long in
    let front : take n (bits n v ++ rest) ≡ bits n v = ap (λ k. take k (bits n v ++ rest)) (sym (length-bits n v)) ∙ take-append_seam (bits n v) rest in
    let back : drop n (bits n v ++ rest) ≡ rest = ap (λ k. drop k (bits n v ++ rest)) (sym (length-bits n v)) ∙ drop-append_seam (bits n v) rest in
    rw (test, front, back, number_of-bits) refl

pub bytes_again : (b : List ℕ) (rest : List Bool) → are_bytes b ≡ true
    → read_bytes (length b) (bits_of b ++ rest) ≡ Some (b, rest)
unfolding read_bytes
bytes_again [] rest fit = refl
bytes_again (b ∷ bs) rest fit =
    let parts = both (nat_lt b 256) (are_bytes bs) fit in
    let small : b % 2 ^ 8 ≡ b = omega (arith, ltb-true b 256 parts.0) in
    rw (append_assoc (bits 8 b) (bits_of bs) rest, number_again 8 b (bits_of bs ++ rest), small, bytes_again bs rest parts.1) refl

-- a number's first digit and the others
pub digits_join : (v d : ℕ) → v / 10 ^ d % 10 * 10 ^ d + v % 10 ^ d ≡ v % 10 ^ suc d
digits_join v d =
    let power : 10 ^ suc d ≡ 10 * 10 ^ d = pow-suc 10 d ∙ omega arith in
    let ten : zero < 10 = omega arith in
    sym (mod-mul v ten (ten_pos d)) ∙ ap (λ m. v % m) (sym power)

decimal_again : (d v : ℕ) (rest : List Bool)
    → read_decimal d (spell_decimal d v ++ rest) ≡ Some (v % 10 ^ d, rest)
unfolding read_decimal spell_decimal
decimal_again zero v rest = ap (λ n. Some (n, rest)) (omega arith)
decimal_again (suc d) v rest =
    let digit : v / 10 ^ d % 10 % 2 ^ 4 ≡ v / 10 ^ d % 10 = omega arith in
    let test = le-leb (v / 10 ^ d % 10) 9 (omega arith) in
    rw (append_assoc (bits 4 (v / 10 ^ d % 10)) (spell_decimal d v) rest, number_again 4 (v / 10 ^ d % 10) (spell_decimal d v ++ rest), digit, test, decimal_again d v rest)
    (ap (λ n. Some (n, rest)) (digits_join v d))

rest_again : (b : List ℕ) → are_bytes b ≡ true → read_rest (bits_of b) ≡ Some (b, [])
unfolding read_rest
rest_again b fit =
    let count : length (bits_of b) / 8 ≡ length b = omega (arith, length-bits_of b) in
    let whole = bytes_again b [] fit in
    rw (count, (rw append-nil at whole)) refl

printable_bytes : (b : List ℕ) → are_printable b ≡ true → are_bytes b ≡ true
printable_bytes [] all = refl
printable_bytes (b ∷ bs) all =
    let parts = both (is_printable b) (are_printable bs) all in
    let range = both (nat_le 0x20 b) (nat_le b 0x7E) parts.0 in
    let small : nat_lt b 256 ≡ true = lt-ltb b 256 (omega (arith, leb-true b 0x7E range.1)) in
    rw (small, printable_bytes bs parts.1) refl

-- what reading keeps of the value of a field
abbrev pub kept : Kind → Option Held → Option Held
kept (Number count) value = value
kept (Reserved count) value = value
kept (Zeros count) value = value
kept (Ones count) value = None
kept (Free count) value = None
kept Flag value = value
kept Start value = value
kept Duration value = value
kept (Decimal digits) value = value
kept Language value = value
kept CountedText value = value
kept CountedHex value = value
kept Text value = value
kept Hex value = value

field_again : (k : Kind) (value : Option Held) (rest : List Bool) → field_fits k value ≡ true
    → (goes_to_end k ≡ true → rest ≡ [])
    → read_field k (spell_field k value ++ rest) ≡ Some (kept k value, rest)
unfolding read_field spell_field
field_again (Number count) None rest fit end = cc
field_again (Reserved count) None rest fit end = cc
field_again (Zeros count) None rest fit end = cc
field_again (Number count) (Some (bytes b)) rest fit end = cc
field_again (Reserved count) (Some (bytes b)) rest fit end = cc
field_again (Zeros count) (Some (bytes b)) rest fit end = cc
field_again (Number count) (Some (number n)) rest fit end =
    let small : n % 2 ^ count ≡ n = mod-eq_of_lt (ltb-true n (2 ^ count) fit) in
    rw (number_again count n rest, small) refl
field_again (Reserved count) (Some (number n)) rest fit end =
    let small : n % 2 ^ count ≡ n = mod-eq_of_lt (ltb-true n (2 ^ count) fit) in
    rw (number_again count n rest, small) refl
field_again (Zeros count) (Some (number n)) rest fit end =
    let small : n % 2 ^ count ≡ n = mod-eq_of_lt (ltb-true n (2 ^ count) fit) in
    rw (number_again count n rest, small) refl
field_again (Ones count) value rest fit end =
    let some : 0 < 2 ^ count = pow_pos count in
    let less : 2 ^ count - 1 < 2 ^ count = omega arith in
    let small : (2 ^ count - 1) % 2 ^ count ≡ 2 ^ count - 1 = mod-eq_of_lt less in
    let ones : 2 ^ count - 1 + 1 ≡ 2 ^ count = omega arith in
    let test = eq-eqb (2 ^ count - 1 + 1) (2 ^ count) ones in
    rw (number_again count (2 ^ count - 1) rest, small, test) refl
field_again (Free count) value rest fit end = rw (number_again count (2 ^ count - 1) rest) refl
field_again Flag None rest fit end = cc
field_again Flag (Some (bytes b)) rest fit end = cc
field_again Flag (Some (number n)) rest fit end =
    let small : n % 2 ^ 1 ≡ n = mod-eq_of_lt (ltb-true n 2 fit) in
    rw (number_again 1 n rest, small) refl
field_again Start None rest fit end = cc
field_again Start (Some (bytes b)) rest fit end = cc
field_again Start (Some (number n)) rest fit end =
    let parts = both (nat_lt n (2 ^ 40)) (is_start n) fit in
    let small : n % 2 ^ 40 ≡ n = mod-eq_of_lt (ltb-true n (2 ^ 40) parts.0) in
    rw (number_again 40 n rest, small, parts.1) refl
field_again Duration None rest fit end = cc
field_again Duration (Some (bytes b)) rest fit end = cc
field_again Duration (Some (number n)) rest fit end =
    let parts = both (nat_lt n (2 ^ 24)) (is_time 99 n) fit in
    let small : n % 2 ^ 24 ≡ n = mod-eq_of_lt (ltb-true n (2 ^ 24) parts.0) in
    rw (number_again 24 n rest, small, parts.1) refl
field_again (Decimal digits) None rest fit end = cc
field_again (Decimal digits) (Some (bytes b)) rest fit end = cc
field_again (Decimal digits) (Some (number n)) rest fit end =
    let small : n % 10 ^ digits ≡ n = mod-eq_of_lt (ltb-true n (10 ^ digits) fit) in
    rw (decimal_again digits n rest, small) refl
field_again Language None rest fit end = cc
field_again Language (Some (number n)) rest fit end = cc
field_again Language (Some (bytes b)) rest fit end =
    let parts = both (nat_eq (length b) 3) (are_printable b) fit in
    let three : length b ≡ 3 = eqb-true (length b) 3 parts.0 in
    let read = bytes_again b rest (printable_bytes b parts.1) in
    rw ((rw three at read), parts.1) refl
field_again CountedText None rest fit end = cc
field_again CountedHex None rest fit end = cc
field_again CountedText (Some (number n)) rest fit end = cc
field_again CountedHex (Some (number n)) rest fit end = cc
field_again CountedText (Some (bytes b)) rest fit end =
    let parts = both (nat_lt (length b) 256) (are_bytes b) fit in
    let small : length b % 2 ^ 8 ≡ length b = omega (arith, ltb-true (length b) 256 parts.0) in
    rw (append_assoc (bits 8 (length b)) (bits_of b) rest, number_again 8 (length b) (bits_of b ++ rest), small, bytes_again b rest parts.1) refl
field_again CountedHex (Some (bytes b)) rest fit end =
    let parts = both (nat_lt (length b) 256) (are_bytes b) fit in
    let small : length b % 2 ^ 8 ≡ length b = omega (arith, ltb-true (length b) 256 parts.0) in
    rw (append_assoc (bits 8 (length b)) (bits_of b) rest, number_again 8 (length b) (bits_of b ++ rest), small, bytes_again b rest parts.1) refl
field_again Text None rest fit end = cc
field_again Text (Some (number n)) rest fit end = cc
field_again Text (Some (bytes b)) rest fit end = rw (end refl, append-nil (bits_of b), rest_again b fit) refl
field_again Hex None rest fit end = cc
field_again Hex (Some (number n)) rest fit end = cc
field_again Hex (Some (bytes b)) rest fit end = rw (end refl, append-nil (bits_of b), rest_again b fit) refl

-- a list from its first part, which is there where a field requires one
pub first_and_rest : (k : Kind) (values : List Held) → field_fits k (slice_get values 0) ≡ true
    → option_to_list (kept k (slice_get values 0)) ++ drop (holds k) values ≡ values
first_and_rest (Ones count) values fit = refl
first_and_rest (Number count) [] fit = cc
first_and_rest (Reserved count) [] fit = cc
first_and_rest (Zeros count) [] fit = cc
first_and_rest (Number count) (v ∷ vs) fit = refl
first_and_rest (Reserved count) (v ∷ vs) fit = refl
first_and_rest (Zeros count) (v ∷ vs) fit = refl
first_and_rest (Free count) values fit = refl
first_and_rest Flag [] fit = cc
first_and_rest Flag (v ∷ vs) fit = refl
first_and_rest Start [] fit = cc
first_and_rest Start (v ∷ vs) fit = refl
first_and_rest Duration [] fit = cc
first_and_rest Duration (v ∷ vs) fit = refl
first_and_rest (Decimal digits) [] fit = cc
first_and_rest (Decimal digits) (v ∷ vs) fit = refl
first_and_rest Language [] fit = cc
first_and_rest Language (v ∷ vs) fit = refl
first_and_rest CountedText [] fit = cc
first_and_rest CountedHex [] fit = cc
first_and_rest CountedText (v ∷ vs) fit = refl
first_and_rest CountedHex (v ∷ vs) fit = refl
first_and_rest Text [] fit = cc
first_and_rest Text (v ∷ vs) fit = refl
first_and_rest Hex [] fit = cc
first_and_rest Hex (v ∷ vs) fit = refl

last_row : (k : Kind) (rs : List Row) (values : List Held) (rest : List Bool) → goes_to_end k ≡ true
    → (if goes_to_end k then is_nil rs else ends_last rs) ≡ true
    → (goes_to_end k || is_open rs ≡ true → rest ≡ []) → spell_rows rs values ++ rest ≡ []
unfolding spell_rows
last_row k [] values rest goes last end = end (rw goes refl)
last_row k (r ∷ rs) values rest goes last end = let e = rw goes at last in cc

others_last : (k : Kind) (rs : List Row) → (if goes_to_end k then is_nil rs else ends_last rs) ≡ true
    → ends_last rs ≡ true
others_last k [] last = refl
others_last k (r ∷ rs) last = by_test (goes_to_end k) (ends_last (r ∷ rs)) last

others_open : (k : Kind) (rs : List Row) → is_open rs ≡ true → (goes_to_end k || is_open rs) ≡ true
others_open k rs goes = either_true (goes_to_end k) (is_open rs) goes

pub rows_again : (rs : List Row) (values : List Held) (rest : List Bool) → fits rs values ≡ true
    → ends_last rs ≡ true → (is_open rs ≡ true → rest ≡ [])
    → read_rows rs (spell_rows rs values ++ rest) ≡ Some (values, rest)
unfolding read_rows spell_rows fits
rows_again [] [] rest fit last end = refl
rows_again [] (v ∷ vs) rest fit last end = cc
rows_again (r ∷ rs) values rest fit last end =
    let k = r.kind in
    let first = slice_get values 0 in
    let parts = both (field_fits k first) (fits rs (drop (holds k) values)) fit in
    let tails = spell_rows rs (drop (holds k) values) ++ rest in
    let none : goes_to_end k ≡ true → tails ≡ [] = λ goes. last_row k rs (drop (holds k) values) rest goes last end in
    let here = field_again k first tails parts.0 none in
    let more = rows_again rs (drop (holds k) values) rest parts.1 (others_last k rs last) (λ goes. end (others_open k rs goes)) in
    rw (append_assoc (spell_field k first) (spell_rows rs (drop (holds k) values)) rest, here, more)
    (ap (λ l. Some (l, rest)) (first_and_rest k values parts.0))
