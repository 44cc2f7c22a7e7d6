-- What the calls of the writer write.
use Rattle.std.proofs.Common.{◌≡◌, ℕ, zero, suc, ◌+◌, ◌-◌, ◌*◌, ◌/◌, ◌%◌, ◌^◌, ◌<◌, ◌≤◌, Bool, List, [], ◌∷◌, ◌++◌, length, drop, refl, sym, ap, ◌∙◌, arith, append_assoc, append-nil, pow-suc, length-append}
use Rattle.std.specs.Prelude.{nat_eq, map, slice_get, get_or, Option, Some, None, option_map}
use Rattle.std.proofs.lemmas.List.{drop_all}
use Rattle.ts_fields.specs.declared.field.Field.{Field}
use Rattle.ts_fields.specs.Layout.{Held, row, held}
use Rattle.ts_fields.specs.declared.field.FieldValue.{FieldValue}
use Rattle.std.proofs.lemmas.Option.{slice_get-map}
use Rattle.std.proofs.Common.{Bor}
use Rattle.ts_fields.proofs.ReadLemmas.{rows_left, drop_twice}
use Rattle.ts_fields.specs.Bits.{bits, bits_of, bit_value}
use Rattle.ts_fields.specs.Spelling.{spell_decimal, spell_field, spell_rows, holds}
use Rattle.ts_fields.proofs.BitLemmas.{bits_snoc, bits_next, bits_of_push, bits-zero, length-bits, length-bits_of}

-- a bit that stays pending
pub bit_kept : (whole : List ℕ) (count pending next : ℕ) (b : Bool) → next ≡ 2 * pending + bit_value b
    → bits_of whole ++ bits (count + 1) next ≡ (bits_of whole ++ bits count pending) ++ b ∷ []
bit_kept whole count pending next b is =
    let up : count + 1 ≡ suc count = omega arith in
    rw (is, up, bits_snoc) (sym (append_assoc (bits_of whole) (bits count pending) (b ∷ [])))

-- a bit that completes a byte
pub bit_completes : (whole new : List ℕ) (count pending next : ℕ) (b : Bool)
    → next ≡ 2 * pending + bit_value b → count ≡ 7 → new ≡ whole ++ next ∷ []
    → bits_of new ++ bits 0 0 ≡ (bits_of whole ++ bits count pending) ++ b ∷ []
bit_completes whole new count pending next b is full pushed =
    rw (bits-zero, append-nil) (bits_of_push whole new next pushed
    ∙ ap (λ n. bits_of whole ++ bits 8 n) is ∙ ap (λ l. bits_of whole ++ l) (bits_snoc 7 pending b)
    ∙ sym (ap (λ n. bits_of whole ++ (bits n pending ++ b ∷ [])) full)
    ∙ sym (append_assoc (bits_of whole) (bits count pending) (b ∷ [])))

-- the bits of a number so far
pub put_more : (old now new : List Bool) (i count value : ℕ) → i < count
    → now ≡ old ++ bits i (value / 2 ^ (count - i))
    → new ≡ now ++ nat_eq (value / 2 ^ (count - 1 - i) % 2) 1 ∷ []
    → new ≡ old ++ bits (i + 1) (value / 2 ^ (count - (i + 1)))
put_more old now new i count value inside so_far is =
    let k = count - (i + 1) in
    let here : count - i ≡ k + 1 = omega arith in
    let place : count - 1 - i ≡ k = omega arith in
    let up : i + 1 ≡ suc i = omega arith in
    is ∙ ap (λ l. l ++ nat_eq (value / 2 ^ (count - 1 - i) % 2) 1 ∷ []) so_far
    ∙ append_assoc old (bits i (value / 2 ^ (count - i))) _
    ∙ ap (λ l. old ++ l) (rw (here, place) (sym (bits_next i value k)) ∙ sym (ap (λ n. bits n (value / 2 ^ k)) up))

-- the digits of a number so far
pub decimal_more : (old now new : List Bool) (i digits value power : ℕ) → i < digits
    → power ≡ 10 ^ (digits - 1 - i)
    → now ++ spell_decimal (digits - i) value ≡ old ++ spell_decimal digits value
    → new ≡ now ++ bits 4 (value / power % 10)
    → new ++ spell_decimal (digits - (i + 1)) value ≡ old ++ spell_decimal digits value
unfolding spell_decimal
decimal_more old now new i digits value power inside p so_far is =
    let k = digits - (i + 1) in
    let here : digits - i ≡ suc k = omega arith in
    let place : digits - 1 - i ≡ k = omega arith in
    rw (is, p, place) (append_assoc now (bits 4 (value / 10 ^ k % 10)) (spell_decimal k value)) ∙ (rw here at so_far)

pub decimal_done : (old now : List Bool) (i digits value : ℕ) → digits ≤ i
    → now ++ spell_decimal (digits - i) value ≡ old ++ spell_decimal digits value
    → now ≡ old ++ spell_decimal digits value
unfolding spell_decimal
decimal_done old now i digits value all so_far =
    let none : digits - i ≡ 0 = omega arith in
    sym (append-nil now) ∙ (rw none at so_far)

-- whole bytes have no bits after them
pub no_rest : (whole : List ℕ) (count pending : ℕ) → count < 8
    → length (bits_of whole ++ bits count pending) % 8 ≡ 0
    → bits_of whole ≡ bits_of whole ++ bits count pending
no_rest whole count pending few whole_bytes =
    let sum : length (bits_of whole ++ bits count pending) ≡ 8 * length whole + count = length-append (bits_of whole) (bits count pending) ∙ omega (arith, length-bits count pending, length-bits_of whole) in
    let none : count ≡ 0 = omega arith in
    rw (none, bits-zero, append-nil) refl

pub ten_pos : (k : ℕ) → 0 < 10 ^ k
ten_pos zero = omega arith
ten_pos (suc k) = rw pow-suc (omega (arith, ten_pos k))

first_of_rest : {A : Type 0} (xs : List A) (n : ℕ) → slice_get (drop n xs) 0 ≡ slice_get xs n
first_of_rest xs zero = refl
first_of_rest [] (suc n) = refl
first_of_rest (x ∷ xs) (suc n) = first_of_rest xs n

-- one row more
pub spelled_more : (old now new : List Bool) (fields : List Field) (i : ℕ) (d : Field)
    (values : List Held) (next : ℕ) (value : Option Held) → i < length fields
    → value ≡ slice_get values next
    → now ++ spell_rows (map row (drop i fields)) (drop next values) ≡ old ++ spell_rows (map row fields) values
    → new ≡ now ++ spell_field (get_or fields i d).kind value
    → new ++ spell_rows (map row (drop (i + 1) fields)) (drop (next + holds (get_or fields i d).kind) values) ≡ old ++ spell_rows (map row fields) values
unfolding spell_rows
spelled_more old now new fields i d values next value inside found so_far is =
    let kind = (get_or fields i d).kind in
    let left : map row (drop i fields) ≡ row (get_or fields i d) ∷ map row (drop (i + 1) fields) = rows_left fields i d inside in
    let first : slice_get (drop next values) 0 ≡ slice_get values next = first_of_rest values next in
    let others : drop (holds kind) (drop next values) ≡ drop (next + holds kind) values = drop_twice next (holds kind) values in
    let e = rw (left, first, others) at so_far in
    rw (is, found) (append_assoc now (spell_field kind (slice_get values next)) _) ∙ e

pub spelled_done : (old now : List Bool) (fields : List Field) (i : ℕ) (values : List Held) (next : ℕ)
    → length fields ≤ i
    → now ++ spell_rows (map row (drop i fields)) (drop next values) ≡ old ++ spell_rows (map row fields) values
    → now ≡ old ++ spell_rows (map row fields) values
unfolding spell_rows
spelled_done old now fields i values next all so_far =
    let none : drop i fields ≡ [] = drop_all i fields all in
    sym (append-nil now) ∙ (rw none at so_far)

through : (found : Option (Bor FieldValue))
    → option_map (λ v. held v.now) found ≡ option_map held (option_map (λ v. v.now) found)
through None = refl
through (Some x) = refl

pub held_at : (found : Option (Bor FieldValue)) (values : List FieldValue) (i : ℕ)
    → option_map (λ v. v.now) found ≡ slice_get values i
    → option_map (λ v. held v.now) found ≡ slice_get (map held values) i
held_at found values i is = through found ∙ ap (option_map held) is ∙ sym (slice_get-map held values i)
