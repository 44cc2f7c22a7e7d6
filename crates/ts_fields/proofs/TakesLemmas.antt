-- What is read is written so.
use Rattle.std.proofs.Common.{◌≡◌, ℕ, zero, suc, ◌+◌, ◌-◌, ◌*◌, ◌/◌, ◌%◌, ◌^◌, ◌<◌, ◌≤◌, Bool, true, false, List, [], ◌∷◌, ◌++◌, length, take, drop, refl, sym, ap, ◌∙◌, arith, append_assoc, pow-suc, length-append, mod-lt, mul-le-mul_right}
use Rattle.std.specs.Prelude.{nat_eq, nat_le, nat_lt, Option, Some, None, option_to_list, slice_get, if◌then◌else◌}
use Rattle.std.proofs.lemmas.Bool.{leb-true, eqb-true, eq-eqb, lt-ltb}
use Rattle.std.proofs.Math.Nat.{add-mul-mod_self_left}
use Rattle.std.proofs.lemmas.Nat.{div-mul-add, pow-add}
use Rattle.std.proofs.lemmas.List.{take-append-drop, length-take-le}
use Rattle.std.proofs.lemmas.Option.{cond_some, same_Some}
use Rattle.ts_fields.specs.declared.field.Kind.{Kind}
use Rattle.ts_fields.specs.declared.field.Kind.TheVariants.{Number, Reserved, Zeros, Ones, Free, Flag, Start, Duration, Decimal, Language, CountedText, CountedHex, Text, Hex}
use Rattle.ts_fields.specs.Bits.{bits, bits_of, number_of}
use Rattle.ts_fields.specs.Layout.{Row, Held, number, bytes}
use Rattle.ts_fields.specs.Reading.{read_number, read_bytes, read_decimal, read_rest, read_field, read_rows, are_printable, ◌>>=◌}
use Rattle.ts_fields.specs.Spelling.{spell_decimal, spell_field, spell_rows, holds}
use Rattle.ts_fields.specs.SoundRows.{is_exact, are_exact}
use Rattle.ts_fields.specs.Fitting.{fits, field_fits, are_bytes}
use Rattle.ts_fields.specs.Times.{is_start, is_time}
use Rattle.ts_fields.proofs.BitLemmas.{length-bits, bits-number_of, number_of-lt}
use Rattle.ts_fields.proofs.WriteLemmas.{ten_pos}
use Rattle.ts_fields.proofs.AgainLemmas.{both, digits_join, kept}

-- a read that went on
pub then_some : {A B P : Type 0} (r : Option A) (next : A → Option B) (y : B) → (r >>= next) ≡ Some y
    → ((x : A) → r ≡ Some x → next x ≡ Some y → P) → P
then_some None next y is goal = cc
then_some (Some x) next y is goal = goal x refl is

pub number_takes : (n : ℕ) (from : List Bool) (v : ℕ) (rest : List Bool)
    → read_number n from ≡ Some (v, rest) → (from ≡ bits n v ++ rest) × (v < 2 ^ n)
unfolding read_number
number_takes n from v rest is =
    let parts = cond_some (nat_le n (length from)) (number_of (take n from), drop n from) (v, rest) is in
    let v_is : number_of (take n from) ≡ v = ap (λ x. x.0) parts.1 in
    let rest_is : drop n from ≡ rest = ap (λ x. x.1) parts.1 in
    let long : length (take n from) ≡ n = length-take-le n from (leb-true n (length from) parts.0) in
    let front : bits n v ≡ take n from = sym (ap (λ k. bits k v) long) ∙ sym (ap (bits (length (take n from))) v_is) ∙ bits-number_of (take n from) in
    let small : number_of (take n from) < 2 ^ length (take n from) = number_of-lt (take n from) in (
      sym (ap (λ l. l ++ rest) front ∙ ap (λ l. take n from ++ l) (sym rest_is) ∙ take-append-drop n from),
      rw (v_is, long) at small,
    )

pub bytes_takes : (n : ℕ) (from : List Bool) (b : List ℕ) (rest : List Bool)
    → read_bytes n from ≡ Some (b, rest)
    → (from ≡ bits_of b ++ rest) × (length b ≡ n) × (are_bytes b ≡ true)
unfolding read_bytes
bytes_takes zero from b rest is =
    let b_is : [] ≡ b = ap (λ x. x.0) (same_Some _ _ is) in
    let rest_is : from ≡ rest = ap (λ x. x.1) (same_Some _ _ is) in
    rw (← b_is, rest_is) (refl, refl, refl)
bytes_takes (suc n) from b rest is =
    then_some (read_number 8 from) (λ first. read_bytes n first.1 >>= λ more. Some (first.0 ∷ more.0, more.1)) (b, rest) is (λ first was joined.
    then_some (read_bytes n first.1) (λ more. Some (first.0 ∷ more.0, more.1)) (b, rest) joined (λ more had joins.
    let one = number_takes 8 from first.0 first.1 was in
    let others = bytes_takes n first.1 more.0 more.1 had in
    let b_is : first.0 ∷ more.0 ≡ b = ap (λ x. x.0) (same_Some _ _ joins) in
    let rest_is : more.1 ≡ rest = ap (λ x. x.1) (same_Some _ _ joins) in
    let small : nat_lt first.0 256 ≡ true = lt-ltb first.0 256 (omega arith) in
    rw (← b_is, ← rest_is) (
      one.0 ∙ ap (λ l. bits 8 first.0 ++ l) others.0 ∙ sym (append_assoc (bits 8 first.0) (bits_of more.0) more.1),
      ap suc others.1,
      rw (small, others.2) refl,
    )))

-- the digits of the lower digits of a number
digit_of_low : (v n : ℕ) → v % 10 ^ suc n / 10 ^ n ≡ v / 10 ^ n % 10
digit_of_low v n = ap (λ x. x / 10 ^ n) (sym (digits_join v n)) ∙ div-mul-add (v / 10 ^ n % 10) (10 ^ n) (v % 10 ^ n) (mod-lt v (ten_pos n))

turned : (x low a b : ℕ) → x * (a * b) + low ≡ low + a * (b * x)
turned x low a b = grind arith

digits_below : (first more power next : ℕ) → first ≤ 9 → more < power → next ≡ power * 10
    → first * power + more < next
digits_below first more power next nine small is =
    let most : first * power ≤ 9 * power = mul-le-mul_right power nine in
    omega arith

cond_some_by : {A : Type 0} (b : Bool) (x : Option A) (y : A) → (if b then x else None) ≡ Some y
    → (b ≡ true) × (x ≡ Some y)
cond_some_by true x y is = (refl, is)
cond_some_by false x y is = cc

pub empty : {A : Type 0} (xs : List A) → length xs ≡ 0 → xs ≡ []
empty [] is = refl
empty (x ∷ xs) is = absurd (omega arith)

digit_low : (x low n m : ℕ) → n < m → (x * 10 ^ m + low) / 10 ^ n % 10 ≡ low / 10 ^ n % 10
digit_low x low n m inside =
    let up : suc n + (m - suc n) ≡ m = omega arith in
    let power : 10 ^ m ≡ 10 ^ suc n * 10 ^ (m - suc n) = ap (λ k. 10 ^ k) (sym up) ∙ pow-add 10 (suc n) (m - suc n) in
    let moved : x * 10 ^ m + low ≡ low + 10 ^ suc n * (10 ^ (m - suc n) * x) = rw power (turned x low (10 ^ suc n) (10 ^ (m - suc n))) in
    let same : (x * 10 ^ m + low) % 10 ^ suc n ≡ low % 10 ^ suc n = ap (λ v. v % 10 ^ suc n) moved ∙ add-mul-mod_self_left low (10 ^ suc n) (10 ^ (m - suc n) * x) in
    sym (digit_of_low (x * 10 ^ m + low) n) ∙ ap (λ v. v / 10 ^ n) same ∙ digit_of_low low n

decimal_low : (d x low m : ℕ) → d ≤ m → spell_decimal d (x * 10 ^ m + low) ≡ spell_decimal d low
unfolding spell_decimal
decimal_low zero x low m inside = refl
decimal_low (suc d) x low m inside = rw (digit_low x low d m (omega arith), decimal_low d x low m (omega arith)) refl

decimal_takes : (d : ℕ) (from : List Bool) (v : ℕ) (rest : List Bool)
    → read_decimal d from ≡ Some (v, rest) → (from ≡ spell_decimal d v ++ rest) × (v < 10 ^ d)
unfolding read_decimal spell_decimal
decimal_takes zero from v rest is =
    let v_is : 0 ≡ v = ap (λ x. x.0) (same_Some _ _ is) in
    let rest_is : from ≡ rest = ap (λ x. x.1) (same_Some _ _ is) in (rest_is, omega arith)
decimal_takes (suc d) from v rest is =
    then_some (read_number 4 from) _ (v, rest) is (λ first was tested.
    let parts = cond_some_by (nat_le first.0 9) _ (v, rest) tested in
    then_some (read_decimal d first.1) (λ more. Some (first.0 * 10 ^ d + more.0, more.1)) (v, rest) parts.1 (λ more had joins.
    let one = number_takes 4 from first.0 first.1 was in
    let others = decimal_takes d first.1 more.0 more.1 had in
    let v_is : first.0 * 10 ^ d + more.0 ≡ v = ap (λ x. x.0) (same_Some _ _ joins) in
    let rest_is : more.1 ≡ rest = ap (λ x. x.1) (same_Some _ _ joins) in
    let digit : (first.0 * 10 ^ d + more.0) / 10 ^ d ≡ first.0 = div-mul-add first.0 (10 ^ d) more.0 others.1 in
    let nine : first.0 ≤ 9 = leb-true first.0 9 parts.0 in
    let low : first.0 % 10 ≡ first.0 = omega arith in
    rw (← v_is, ← rest_is) (
      rw (digit, low, decimal_low d first.0 more.0 d (omega arith)) (one.0 ∙ ap (λ l. bits 4 first.0 ++ l) others.0 ∙ sym (append_assoc (bits 4 first.0) (spell_decimal d more.0) more.1)),
      digits_below first.0 more.0 (10 ^ d) (10 ^ suc d) nine others.1 (pow-suc 10 d),
    )))

rest_takes : (from : List Bool) (b : List ℕ) (rest : List Bool) → read_rest from ≡ Some (b, rest)
    → (from ≡ bits_of b ++ rest) × (rest ≡ []) × (are_bytes b ≡ true)
unfolding read_rest
rest_takes from b rest is =
    then_some (read_bytes (length from / 8) from) _ (b, rest) is (λ all was tested.
    let parts = cond_some (nat_eq (length all.1) 0) (all.0, all.1) (b, rest) tested in
    let b_is : all.0 ≡ b = ap (λ x. x.0) parts.1 in
    let rest_is : all.1 ≡ rest = ap (λ x. x.1) parts.1 in
    let took = bytes_takes (length from / 8) from all.0 all.1 was in
    rw (← b_is, ← rest_is) (took.0, empty all.1 (eqb-true (length all.1) 0 parts.0), took.2))

field_takes : (k : Kind) (from : List Bool) (value : Option Held) (rest : List Bool) → is_exact k ≡ true
    → read_field k from ≡ Some (value, rest)
    → (from ≡ spell_field k value ++ rest) × (field_fits k value ≡ true) × (kept k value ≡ value)
unfolding read_field spell_field
field_takes (Number count) from value rest exact is =
    then_some (read_number count from) (λ x. Some (Some (number x.0), x.1)) (value, rest) is (λ x was joins.
    let value_is : Some (number x.0) ≡ value = ap (λ y. y.0) (same_Some _ _ joins) in
    let rest_is : x.1 ≡ rest = ap (λ y. y.1) (same_Some _ _ joins) in
    let took = number_takes count from x.0 x.1 was in
    rw (← value_is, ← rest_is) (took.0, lt-ltb x.0 (2 ^ count) took.1, refl))
field_takes (Reserved count) from value rest exact is =
    then_some (read_number count from) (λ x. Some (Some (number x.0), x.1)) (value, rest) is (λ x was joins.
    let value_is : Some (number x.0) ≡ value = ap (λ y. y.0) (same_Some _ _ joins) in
    let rest_is : x.1 ≡ rest = ap (λ y. y.1) (same_Some _ _ joins) in
    let took = number_takes count from x.0 x.1 was in
    rw (← value_is, ← rest_is) (took.0, lt-ltb x.0 (2 ^ count) took.1, refl))
field_takes (Zeros count) from value rest exact is =
    then_some (read_number count from) (λ x. Some (Some (number x.0), x.1)) (value, rest) is (λ x was joins.
    let value_is : Some (number x.0) ≡ value = ap (λ y. y.0) (same_Some _ _ joins) in
    let rest_is : x.1 ≡ rest = ap (λ y. y.1) (same_Some _ _ joins) in
    let took = number_takes count from x.0 x.1 was in
    rw (← value_is, ← rest_is) (took.0, lt-ltb x.0 (2 ^ count) took.1, refl))
field_takes (Ones count) from value rest exact is =
    then_some (read_number count from) _ (value, rest) is (λ x was tested.
    let parts = cond_some (nat_eq (x.0 + 1) (2 ^ count)) (None, x.1) (value, rest) tested in
    let value_is : None ≡ value = ap (λ y. y.0) parts.1 in
    let rest_is : x.1 ≡ rest = ap (λ y. y.1) parts.1 in
    let took = number_takes count from x.0 x.1 was in
    let full : x.0 + 1 ≡ 2 ^ count = eqb-true (x.0 + 1) (2 ^ count) parts.0 in
    let ones : x.0 ≡ 2 ^ count - 1 = omega arith in
    (took.0 ∙ rw (← ones, rest_is) refl, refl, value_is))
field_takes (Free count) from value rest exact is = cc
field_takes Flag from value rest exact is =
    then_some (read_number 1 from) (λ x. Some (Some (number x.0), x.1)) (value, rest) is (λ x was joins.
    let value_is : Some (number x.0) ≡ value = ap (λ y. y.0) (same_Some _ _ joins) in
    let rest_is : x.1 ≡ rest = ap (λ y. y.1) (same_Some _ _ joins) in
    let took = number_takes 1 from x.0 x.1 was in
    rw (← value_is, ← rest_is) (took.0, lt-ltb x.0 2 took.1, refl))
field_takes Start from value rest exact is =
    then_some (read_number 40 from) _ (value, rest) is (λ x was tested.
    let parts = cond_some (is_start x.0) (Some (number x.0), x.1) (value, rest) tested in
    let value_is : Some (number x.0) ≡ value = ap (λ y. y.0) parts.1 in
    let rest_is : x.1 ≡ rest = ap (λ y. y.1) parts.1 in
    let took = number_takes 40 from x.0 x.1 was in
    rw (← value_is, ← rest_is) (took.0, rw (lt-ltb x.0 (2 ^ 40) took.1, parts.0) refl, refl))
field_takes Duration from value rest exact is =
    then_some (read_number 24 from) _ (value, rest) is (λ x was tested.
    let parts = cond_some (is_time 99 x.0) (Some (number x.0), x.1) (value, rest) tested in
    let value_is : Some (number x.0) ≡ value = ap (λ y. y.0) parts.1 in
    let rest_is : x.1 ≡ rest = ap (λ y. y.1) parts.1 in
    let took = number_takes 24 from x.0 x.1 was in
    rw (← value_is, ← rest_is) (took.0, rw (lt-ltb x.0 (2 ^ 24) took.1, parts.0) refl, refl))
field_takes (Decimal digits) from value rest exact is =
    then_some (read_decimal digits from) (λ x. Some (Some (number x.0), x.1)) (value, rest) is (λ x was joins.
    let value_is : Some (number x.0) ≡ value = ap (λ y. y.0) (same_Some _ _ joins) in
    let rest_is : x.1 ≡ rest = ap (λ y. y.1) (same_Some _ _ joins) in
    let took = decimal_takes digits from x.0 x.1 was in
    rw (← value_is, ← rest_is) (took.0, lt-ltb x.0 (10 ^ digits) took.1, refl))
field_takes Language from value rest exact is =
    then_some (read_bytes 3 from) _ (value, rest) is (λ x was tested.
    let parts = cond_some (are_printable x.0) (Some (bytes x.0), x.1) (value, rest) tested in
    let value_is : Some (bytes x.0) ≡ value = ap (λ y. y.0) parts.1 in
    let rest_is : x.1 ≡ rest = ap (λ y. y.1) parts.1 in
    let took = bytes_takes 3 from x.0 x.1 was in
    let three = eq-eqb (length x.0) 3 took.1 in
    rw (← value_is, ← rest_is) (took.0, rw (three, parts.0) refl, refl))
field_takes CountedText from value rest exact is =
    then_some (read_number 8 from) _ (value, rest) is (λ count was more.
    then_some (read_bytes count.0 count.1) (λ x. Some (Some (bytes x.0), x.1)) (value, rest) more (λ x had joins.
    let value_is : Some (bytes x.0) ≡ value = ap (λ y. y.0) (same_Some _ _ joins) in
    let rest_is : x.1 ≡ rest = ap (λ y. y.1) (same_Some _ _ joins) in
    let one = number_takes 8 from count.0 count.1 was in
    let took = bytes_takes count.0 count.1 x.0 x.1 had in
    let small : nat_lt (length x.0) 256 ≡ true = lt-ltb (length x.0) 256 (rw took.1 one.1) in
    rw (← value_is, ← rest_is) (
      rw took.1 (one.0 ∙ ap (λ l. bits 8 count.0 ++ l) took.0 ∙ sym (append_assoc (bits 8 count.0) (bits_of x.0) x.1)),
      rw (small, took.2) refl,
      refl,
    )))
field_takes CountedHex from value rest exact is =
    then_some (read_number 8 from) _ (value, rest) is (λ count was more.
    then_some (read_bytes count.0 count.1) (λ x. Some (Some (bytes x.0), x.1)) (value, rest) more (λ x had joins.
    let value_is : Some (bytes x.0) ≡ value = ap (λ y. y.0) (same_Some _ _ joins) in
    let rest_is : x.1 ≡ rest = ap (λ y. y.1) (same_Some _ _ joins) in
    let one = number_takes 8 from count.0 count.1 was in
    let took = bytes_takes count.0 count.1 x.0 x.1 had in
    let small : nat_lt (length x.0) 256 ≡ true = lt-ltb (length x.0) 256 (rw took.1 one.1) in
    rw (← value_is, ← rest_is) (
      rw took.1 (one.0 ∙ ap (λ l. bits 8 count.0 ++ l) took.0 ∙ sym (append_assoc (bits 8 count.0) (bits_of x.0) x.1)),
      rw (small, took.2) refl,
      refl,
    )))
field_takes Text from value rest exact is =
    then_some (read_rest from) (λ x. Some (Some (bytes x.0), x.1)) (value, rest) is (λ x was joins.
    let value_is : Some (bytes x.0) ≡ value = ap (λ y. y.0) (same_Some _ _ joins) in
    let rest_is : x.1 ≡ rest = ap (λ y. y.1) (same_Some _ _ joins) in
    let took = rest_takes from x.0 x.1 was in
    rw (← value_is, ← rest_is) (took.0, took.2, refl))
field_takes Hex from value rest exact is =
    then_some (read_rest from) (λ x. Some (Some (bytes x.0), x.1)) (value, rest) is (λ x was joins.
    let value_is : Some (bytes x.0) ≡ value = ap (λ y. y.0) (same_Some _ _ joins) in
    let rest_is : x.1 ≡ rest = ap (λ y. y.1) (same_Some _ _ joins) in
    let took = rest_takes from x.0 x.1 was in
    rw (← value_is, ← rest_is) (took.0, took.2, refl))

exact_length : (k : Kind) (from : List Bool) (value : Option Held) (rest : List Bool) → is_exact k ≡ true
    → read_field k from ≡ Some (value, rest)
    → (length from ≡ length (spell_field k value) + length rest) × (field_fits k value ≡ true) × (kept k value ≡ value)
exact_length k from value rest exact is =
    let took = field_takes k from value rest exact is in
    (ap length took.0 ∙ length-append (spell_field k value) rest, took.1, took.2)

-- the same of bits that are read as anything, but for their values
field_length : (k : Kind) (from : List Bool) (value : Option Held) (rest : List Bool)
    → read_field k from ≡ Some (value, rest)
    → (length from ≡ length (spell_field k value) + length rest) × (field_fits k value ≡ true) × (kept k value ≡ value)
unfolding read_field spell_field
field_length (Free count) from value rest is =
    then_some (read_number count from) _ (value, rest) is (λ x was joins.
    let value_is : None ≡ value = ap (λ y. y.0) (same_Some _ _ joins) in
    let rest_is : x.1 ≡ rest = ap (λ y. y.1) (same_Some _ _ joins) in
    let took = number_takes count from x.0 x.1 was in
    let sum : length from ≡ length (bits count x.0) + length x.1 = ap length took.0 ∙ length-append (bits count x.0) x.1 in
    let same : length (bits count x.0) ≡ length (bits count (2 ^ count - 1)) = length-bits count x.0 ∙ sym (length-bits count (2 ^ count - 1)) in
    (sum ∙ rw (same, rest_is) refl, refl, value_is))
field_length (Number count) from value rest is = exact_length (Number count) from value rest refl is
field_length (Reserved count) from value rest is = exact_length (Reserved count) from value rest refl is
field_length (Zeros count) from value rest is = exact_length (Zeros count) from value rest refl is
field_length (Ones count) from value rest is = exact_length (Ones count) from value rest refl is
field_length Flag from value rest is = exact_length Flag from value rest refl is
field_length Start from value rest is = exact_length Start from value rest refl is
field_length Duration from value rest is = exact_length Duration from value rest refl is
field_length (Decimal digits) from value rest is = exact_length (Decimal digits) from value rest refl is
field_length Language from value rest is = exact_length Language from value rest refl is
field_length CountedText from value rest is = exact_length CountedText from value rest refl is
field_length CountedHex from value rest is = exact_length CountedHex from value rest refl is
field_length Text from value rest is = exact_length Text from value rest refl is
field_length Hex from value rest is = exact_length Hex from value rest refl is

-- a value that was read is the first of those that are written
first_of : (k : Kind) (value : Option Held) (more : List Held) → field_fits k value ≡ true
    → kept k value ≡ value
    → (spell_field k (slice_get (option_to_list value ++ more) 0) ≡ spell_field k value) × (field_fits k (slice_get (option_to_list value ++ more) 0) ≡ true) × (drop (holds k) (option_to_list value ++ more) ≡ more)
unfolding spell_field
first_of (Ones count) None more fit keeps = (refl, refl, refl)
first_of (Ones count) (Some v) more fit keeps = cc
first_of (Free count) None more fit keeps = (refl, refl, refl)
first_of (Free count) (Some v) more fit keeps = cc
first_of Flag None more fit keeps = cc
first_of Flag (Some v) more fit keeps = (refl, fit, refl)
first_of Start None more fit keeps = cc
first_of Start (Some v) more fit keeps = (refl, fit, refl)
first_of Duration None more fit keeps = cc
first_of Duration (Some v) more fit keeps = (refl, fit, refl)
first_of (Number count) None more fit keeps = cc
first_of (Reserved count) None more fit keeps = cc
first_of (Zeros count) None more fit keeps = cc
first_of (Number count) (Some v) more fit keeps = (refl, fit, refl)
first_of (Reserved count) (Some v) more fit keeps = (refl, fit, refl)
first_of (Zeros count) (Some v) more fit keeps = (refl, fit, refl)
first_of (Decimal digits) None more fit keeps = cc
first_of (Decimal digits) (Some v) more fit keeps = (refl, fit, refl)
first_of Language None more fit keeps = cc
first_of Language (Some v) more fit keeps = (refl, fit, refl)
first_of CountedText None more fit keeps = cc
first_of CountedHex None more fit keeps = cc
first_of CountedText (Some v) more fit keeps = (refl, fit, refl)
first_of CountedHex (Some v) more fit keeps = (refl, fit, refl)
first_of Text None more fit keeps = cc
first_of Text (Some v) more fit keeps = (refl, fit, refl)
first_of Hex None more fit keeps = cc
first_of Hex (Some v) more fit keeps = (refl, fit, refl)

pub rows_takes : (rs : List Row) (from : List Bool) (values : List Held) (rest : List Bool)
    → are_exact rs ≡ true → read_rows rs from ≡ Some (values, rest)
    → (from ≡ spell_rows rs values ++ rest) × (fits rs values ≡ true)
unfolding read_rows spell_rows fits
rows_takes [] from values rest exact is =
    let values_is : [] ≡ values = ap (λ x. x.0) (same_Some _ _ is) in
    let rest_is : from ≡ rest = ap (λ x. x.1) (same_Some _ _ is) in
    rw (← values_is) (rest_is, refl)
rows_takes (r ∷ rs) from values rest exact is =
    then_some (read_field r.kind from) _ (values, rest) is (λ x was later.
    then_some (read_rows rs x.1) (λ more. Some (option_to_list x.0 ++ more.0, more.1)) (values, rest) later (λ more had joins.
    let values_is : option_to_list x.0 ++ more.0 ≡ values = ap (λ y. y.0) (same_Some _ _ joins) in
    let rest_is : more.1 ≡ rest = ap (λ y. y.1) (same_Some _ _ joins) in
    let exacts = both (is_exact r.kind) (are_exact rs) exact in
    let one = field_takes r.kind from x.0 x.1 exacts.0 was in
    let others = rows_takes rs x.1 more.0 more.1 exacts.1 had in
    let first = first_of r.kind x.0 more.0 one.1 one.2 in
    rw (← values_is, ← rest_is) (
      rw (first.0, first.2) (one.0 ∙ ap (λ l. spell_field r.kind x.0 ++ l) others.0 ∙ sym (append_assoc (spell_field r.kind x.0) (spell_rows rs more.0) more.1)),
      rw (first.1, first.2, others.1) refl,
    )))

-- the same of rows some bits of which are read as anything
pub rows_length : (rs : List Row) (from : List Bool) (values : List Held) (rest : List Bool)
    → read_rows rs from ≡ Some (values, rest)
    → (length from ≡ length (spell_rows rs values) + length rest) × (fits rs values ≡ true)
unfolding read_rows spell_rows fits
rows_length [] from values rest is =
    let values_is : [] ≡ values = ap (λ x. x.0) (same_Some _ _ is) in
    let rest_is : from ≡ rest = ap (λ x. x.1) (same_Some _ _ is) in
    let same : length from ≡ 0 + length rest = omega (arith, ap length rest_is) in
    rw (← values_is) (same, refl)
rows_length (r ∷ rs) from values rest is =
    then_some (read_field r.kind from) _ (values, rest) is (λ x was later.
    then_some (read_rows rs x.1) (λ more. Some (option_to_list x.0 ++ more.0, more.1)) (values, rest) later (λ more had joins.
    let values_is : option_to_list x.0 ++ more.0 ≡ values = ap (λ y. y.0) (same_Some _ _ joins) in
    let rest_is : more.1 ≡ rest = ap (λ y. y.1) (same_Some _ _ joins) in
    let one = field_length r.kind from x.0 x.1 was in
    let others = rows_length rs x.1 more.0 more.1 had in
    let first = first_of r.kind x.0 more.0 one.1 one.2 in
    let sum = length-append (spell_field r.kind x.0) (spell_rows rs more.0) in
    rw (← values_is, ← rest_is) (
      rw (first.0, first.2) (omega (arith, one.0, others.0)),
      rw (first.1, first.2, others.1) refl,
    )))
