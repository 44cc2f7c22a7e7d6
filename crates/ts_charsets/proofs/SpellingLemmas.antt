-- Bytes that are characters in an alphabet are the bytes of these characters.
use Rattle.std.proofs.Common.{◌≡◌, ℕ, zero, suc, ◌<◌, Bool, true, false, List, [], ◌∷◌, ◌++◌, ◌+◌, ◌*◌, ◌/◌, ◌%◌, refl, ap, ap₂, subst, ◌∙◌, arith}
use Rattle.std.specs.Prelude.{nat_eq, nat_lt, ◌&&◌, ◌||◌, Option, Some, None, option_map, option_and_then, if◌then◌else◌}
use Rattle.std.specs.List.{find, list_all}
use Rattle.std.specs.Str.{all_scalars}
use lib.Utf8.{scalar}
use Rattle.std.proofs.lemmas.Nat.{div-mul-add}
use Rattle.std.proofs.Math.Nat.{mod-add-div}
use Rattle.std.proofs.lemmas.Bool.{ltb-true, eqb-true, eqb-false}
use Rattle.std.proofs.lemmas.Option.{same_Some}
use Rattle.ts_charsets.specs.declared.char_table.AccentedLetter.{AccentedLetter}
use Rattle.ts_charsets.specs.CharTables.{Table, char_of, letter_of, byte_of, accented_char}
use Rattle.ts_charsets.specs.Alphabets.{Alphabet, single, double, code_char, pair_char, pair_of}
use Rattle.ts_charsets.specs.AlphabetTexts.{single_chars, double_chars, chars_in, bytes_in, bytes_of, after_char, one_or_two}
use Rattle.ts_charsets.specs.SingleSpelling.{table_spells_once, spells_once, are_bytes, all_below, is_byte, is_letter, spells_byte, spells_letter}

pub both : (a b : Bool) → (a && b) ≡ true → (a ≡ true) × (b ≡ true)
both true b h = (refl, h)
both false b h = cc

split_if : {A P : Type 0} (c : Bool) (x y : Option A) (z : A) → (if c then x else y) ≡ Some z
    → (c ≡ true → x ≡ Some z → P) → (c ≡ false → y ≡ Some z → P) → P
split_if true x y z is f g = f refl is
split_if false x y z is f g = g refl is

pub then_some : {A B P : Type 0} (r : Option A) (next : A → Option B) (y : B) → option_and_then next r ≡ Some y
    → ((x : A) → r ≡ Some x → next x ≡ Some y → P) → P
then_some None next y is goal = cc
then_some (Some x) next y is goal = goal x refl is

pub mapped : {A B P : Type 0} (r : Option A) (f : A → B) (y : B) → option_map f r ≡ Some y
    → ((x : A) → r ≡ Some x → f x ≡ y → P) → P
mapped None f y is goal = cc
mapped (Some x) f y is goal = goal x refl (same_Some _ _ is)

below_next : (n b : ℕ) (test : ℕ → Bool) (same : Bool) → nat_eq b n ≡ same → test n ≡ true
    → (b < n → test b ≡ true) → b < suc n → test b ≡ true
below_next n b test true so last others inside = ap test (eqb-true b n so) ∙ last
below_next n b test false so last others inside = let differ : b ≡ n → ⊥ = eqb-false b n so in others (omega (arith, differ))

below : (n b : ℕ) (test : ℕ → Bool) → all_below n test ≡ true → b < n → test b ≡ true
unfolding all_below
below zero b test all inside = absurd (omega arith)
below (suc n) b test all inside =
    let parts = both (test n) (all_below n test) all in
    below_next n b test (nat_eq b n) refl parts.0 (λ fewer. below n b test parts.1 fewer) inside

byte_is : (found : Option ℕ) (b : ℕ) → is_byte found b ≡ true → found ≡ Some b
byte_is None b is = cc
byte_is (Some x) b is = ap Some (eqb-true x b is)

other_half : (a b : Bool) → a ≡ false → (a || b) ≡ true → b ≡ true
other_half true b none is = cc
other_half false b none is = is

-- what a test of each byte says of one
byte_spelled : (t : Table) (b : ℕ) → table_spells_once t ≡ true → nat_lt b 256 ≡ true → nat_eq (char_of t b) 0 ≡ false
    → (byte_of t (char_of t b) ≡ Some b) × (all_scalars (char_of t b ∷ []) ≡ true)
unfolding table_spells_once
byte_spelled t b once small some =
    let all = (both (all_below 256 (spells_byte t)) (list_all (spells_letter t) t.accented) once).0 in
    let here : spells_byte t b ≡ true = below 256 b (spells_byte t) all (ltb-true b 256 small) in
    let parts = both (is_byte (byte_of t (char_of t b)) b) (all_scalars (char_of t b ∷ [])) (other_half (nat_eq (char_of t b) 0) _ some here) in
    (byte_is (byte_of t (char_of t b)) b parts.0, parts.1)

letter_is : (byte : Option ℕ) (found : Option AccentedLetter) (a : AccentedLetter) (b l : ℕ)
    → is_letter byte found a ≡ true → nat_eq a.accent b && nat_eq a.letter l ≡ true
    → one_or_two byte found ≡ Some (b ∷ l ∷ [])
letter_is (Some x) found a b l is same = cc
letter_is None None a b l is same = cc
letter_is None (Some x) a b l is same =
    let one = both (nat_eq x.accent a.accent) (nat_eq x.letter a.letter) is in
    let two = both (nat_eq a.accent b) (nat_eq a.letter l) same in
    rw (eqb-true x.accent a.accent one.0, eqb-true x.letter a.letter one.1, eqb-true a.accent b two.0, eqb-true a.letter l two.1) refl

-- what is found passes the test, and each test that all pass
found_next : (test all : AccentedLetter → Bool) (x : AccentedLetter) (xs : List AccentedLetter) (a : AccentedLetter) (so : Bool)
    → test x ≡ so → find test (x ∷ xs) ≡ Some a → all x ≡ true
    → (find test xs ≡ Some a → (test a ≡ true) × (all a ≡ true)) → (test a ≡ true) × (all a ≡ true)
found_next test all x xs a true so found holds others =
    let same : x ≡ a = same_Some _ _ (rw so at found) in rw (← same) (so, holds)
found_next test all x xs a false so found holds others = others (rw so at found)

found_passes : (test all : AccentedLetter → Bool) (xs : List AccentedLetter) (a : AccentedLetter)
    → find test xs ≡ Some a → list_all all xs ≡ true → (test a ≡ true) × (all a ≡ true)
found_passes test all [] a is holds = cc
found_passes test all (x ∷ xs) a is holds =
    let parts = both (all x) (list_all all xs) holds in
    found_next test all x xs a (test x) refl is parts.0 (λ found. found_passes test all xs a found parts.1)

-- a character's bytes, and that it is one of Unicode
abbrev Spelled : Alphabet → ℕ → List ℕ → Type 0
Spelled a c first = (bytes_of a c ≡ Some first) × (all_scalars (c ∷ []) ≡ true)

two_bytes : (t : Table) (b l : ℕ) (a : AccentedLetter) → table_spells_once t ≡ true → letter_of t b l ≡ Some a
    → Spelled (single t) a.shown (b ∷ l ∷ [])
unfolding table_spells_once
two_bytes t b l a once is =
    let all = (both (all_below 256 (spells_byte t)) (list_all (spells_letter t) t.accented) once).1 in
    let found = found_passes (λ x. nat_eq x.accent b && nat_eq x.letter l) (spells_letter t) t.accented a is all in
    let parts = both (is_letter (byte_of t a.shown) (accented_char t a.shown) a) (all_scalars (a.shown ∷ [])) found.1 in
    (letter_is (byte_of t a.shown) (accented_char t a.shown) a b l parts.0 found.0, parts.1)

one_byte : (t : Table) (b : ℕ) → table_spells_once t ≡ true → nat_lt b 256 ≡ true → nat_eq (char_of t b) 0 ≡ false
    → Spelled (single t) (char_of t b) (b ∷ [])
one_byte t b once small some =
    let spelled = byte_spelled t b once small some in
    (ap (λ byte. one_or_two byte (accented_char t (char_of t b))) spelled.0, spelled.1)

-- ---- two bytes

kept : (n : ℕ) (ten big : Bool) → nat_eq n 10 ≡ ten → nat_lt 0xFFFF n ≡ big → nat_lt n 0x20 ≡ false
    → nat_eq n 0xE08A ≡ false → n < 65536 → pair_of n ≡ Some (n / 256, n % 256)
kept n true big is wide low line small = let e = eqb-true n 10 is in let f = rw e at low in cc
kept n false true is wide low line small = absurd (omega (arith, ltb-true 0xFFFF n wide))
kept n false false is wide low line small = rw (is, wide, low, line) refl

-- the bytes of the character of a number
code_by : (n c : ℕ) (line low scalar : Bool) → nat_eq n 0xE08A ≡ line → nat_lt n 0x20 ≡ low
    → all_scalars (n ∷ []) ≡ scalar → n < 65536
    → (if line then 10 else if low then 0 else if scalar then n else 0) ≡ c → nat_eq c 0 ≡ false
    → (pair_of c ≡ Some (n / 256, n % 256)) × (all_scalars (c ∷ []) ≡ true)
code_by n c true low scalar line_is low_is scalar_is small c_is some =
    let e : n ≡ 0xE08A = eqb-true n 0xE08A line_is in rw (← c_is, e) (refl, refl)
code_by n c false true scalar line_is low_is scalar_is small c_is some = let f = rw (← c_is) at some in cc
code_by n c false false false line_is low_is scalar_is small c_is some = let f = rw (← c_is) at some in cc
code_by n c false false true line_is low_is scalar_is small c_is some =
    rw (← c_is) (kept n (nat_eq n 10) (nat_lt 0xFFFF n) refl refl low_is line_is small, scalar_is)

high_byte : (h l : ℕ) → l < 256 → (h * 256 + l) / 256 ≡ h
high_byte h l small = div-mul-add h 256 l small

low_byte : (h l : ℕ) → l < 256 → (h * 256 + l) % 256 ≡ l
low_byte h l small = omega (arith, high_byte h l small, mod-add-div (h * 256 + l) 256)

two_numbers : (h l : ℕ) → nat_lt h 256 ≡ true → nat_lt l 256 ≡ true → nat_eq (pair_char h l) 0 ≡ false
    → Spelled double (pair_char h l) (h ∷ l ∷ [])
two_numbers h l high low some =
    let n = h * 256 + l in
    let high_small = ltb-true h 256 high in
    let low_small = ltb-true l 256 low in
    let small : n < 65536 = omega (arith, high_small, low_small) in
    let read = code_by n (code_char n) (nat_eq n 0xE08A) (nat_lt n 0x20) (all_scalars (n ∷ [])) refl refl refl small refl some in
    let is : pair_of (code_char n) ≡ Some (h, l) = read.0 ∙ ap₂ (λ x y. Some (x, y)) (high_byte h l low_small) (low_byte h l low_small) in
    (ap (option_map (λ p. p.0 ∷ p.1 ∷ [])) is, read.1)

-- ---- all bytes

-- characters whose bytes are these, all of Unicode
abbrev pub Back : Alphabet → List ℕ → List ℕ → Type 0
Back a row cs = (bytes_in a cs ≡ Some row) × (all_scalars cs ≡ true)

no_bytes : (a : Alphabet) → Back a [] []
unfolding bytes_in
no_bytes a = (refl, refl)

scalar_first : (c : ℕ) → all_scalars (c ∷ []) ≡ true → scalar c ≡ true
scalar_first c is = (both (scalar c) true is).0

-- one character more
more_back : (a : Alphabet) (c : ℕ) (first cs rest : List ℕ) → Spelled a c first → Back a rest cs
    → Back a (first ++ rest) (c ∷ cs)
unfolding bytes_in
more_back a c first cs rest is others =
    let here = scalar_first c is.1 in (rw (is.0, others.0) refl, rw (here, others.1) refl)

single_back : (t : Table) (row cs : List ℕ) → table_spells_once t ≡ true → are_bytes row ≡ true
    → single_chars t row ≡ Some cs → Back (single t) row cs
unfolding single_chars
single_back t [] cs once small is = let none : [] ≡ cs = same_Some _ _ is in subst (Back (single t) []) none (no_bytes (single t))
single_back t (b ∷ []) cs once small is =
    split_if (nat_eq (char_of t b) 0) None (Some (char_of t b ∷ [])) cs is
    (λ none no. cc)
    (λ some one. let cs_is : char_of t b ∷ [] ≡ cs = same_Some _ _ one in
    subst (Back (single t) (b ∷ [])) cs_is (more_back (single t) (char_of t b) (b ∷ []) [] [] (one_byte t b once (both (nat_lt b 256) true small).0 some) (no_bytes (single t))))
single_back t (b ∷ (l ∷ more)) cs once small is =
    let parts = both (nat_lt b 256) (are_bytes (l ∷ more)) small in
    let rest = both (nat_lt l 256) (are_bytes more) parts.1 in
    split_if (nat_eq (char_of t b) 0) (option_and_then (λ a. after_char a.shown (single_chars t more)) (letter_of t b l)) (after_char (char_of t b) (single_chars t (l ∷ more))) cs is
    (λ none two. then_some (letter_of t b l) (λ a. after_char a.shown (single_chars t more)) cs two (λ a found later.
    mapped (single_chars t more) (λ ds. a.shown ∷ ds) cs later (λ ds had cs_is.
    subst (Back (single t) (b ∷ (l ∷ more))) cs_is (more_back (single t) a.shown (b ∷ l ∷ []) ds more (two_bytes t b l a once found) (single_back t more ds once rest.1 had)))))
    (λ some one. mapped (single_chars t (l ∷ more)) (λ ds. char_of t b ∷ ds) cs one (λ ds had cs_is.
    subst (Back (single t) (b ∷ (l ∷ more))) cs_is (more_back (single t) (char_of t b) (b ∷ []) ds (l ∷ more) (one_byte t b once parts.0 some) (single_back t (l ∷ more) ds once parts.1 had))))

double_back : (row cs : List ℕ) → are_bytes row ≡ true → double_chars row ≡ Some cs → Back double row cs
unfolding double_chars
double_back [] cs small is = let none : [] ≡ cs = same_Some _ _ is in subst (Back double []) none (no_bytes double)
double_back (h ∷ []) cs small is = cc
double_back (h ∷ (l ∷ more)) cs small is =
    let parts = both (nat_lt h 256) (are_bytes (l ∷ more)) small in
    let rest = both (nat_lt l 256) (are_bytes more) parts.1 in
    split_if (nat_eq (pair_char h l) 0) None (after_char (pair_char h l) (double_chars more)) cs is
    (λ none no. cc)
    (λ some one. mapped (double_chars more) (λ ds. pair_char h l ∷ ds) cs one (λ ds had cs_is.
    subst (Back double (h ∷ (l ∷ more))) cs_is (more_back double (pair_char h l) (h ∷ l ∷ []) ds more (two_numbers h l parts.0 rest.0 some) (double_back more ds rest.1 had))))

-- what is shown is written back to its bytes
pub back : (a : Alphabet) (row cs : List ℕ) → spells_once a ≡ true → are_bytes row ≡ true
    → chars_in a row ≡ Some cs → Back a row cs
back (single t) row cs once small is = single_back t row cs once small is
back double row cs once small is = double_back row cs small is
