-- Counted items between rows are read again as they were written.
use Rattle.std.proofs.Common.{◌≡◌, ℕ, zero, suc, ◌+◌, ◌-◌, ◌*◌, ◌/◌, ◌%◌, ◌^◌, ◌<◌, ◌≤◌, Bool, true, false, List, [], ◌∷◌, ◌++◌, length, take, drop, refl, sym, ap, ◌∙◌, arith, append_assoc, append-nil, length-append}
use Rattle.std.specs.Prelude.{not, Some, slice_get, IsTrue}
use Rattle.std.specs.List.{flat_map}
use Rattle.std.proofs.lemmas.Bool.{le-leb}
use Rattle.std.proofs.lemmas.List.{take-append-drop}
use Rattle.ts_fields.specs.declared.field.Kind.{Kind}
use Rattle.ts_fields.specs.declared.field.Kind.TheVariants.{Number, Reserved, Zeros, Ones, Free, Flag, Start, Duration, Decimal, Language, CountedText, CountedHex, Text, Hex}
use Rattle.ts_fields.specs.Bits.{bits, bits_of, number_of}
use Rattle.ts_fields.specs.Layout.{Row, Held}
use Rattle.ts_fields.specs.Reading.{read_number, read_bytes, read_rows, ◌>>=◌}
use Rattle.ts_fields.specs.Spelling.{spell_field, spell_rows, holds}
use Rattle.ts_fields.specs.SoundRows.{ends_last, is_open}
use Rattle.ts_fields.specs.Fitting.{field_fits, fits, are_bytes}
use Rattle.ts_fields.specs.Bodies.{Holding, all_fit, held_by, items_fit, items_sound, read_around, read_items, read_loop, spell_around, spell_loop}
use Rattle.ts_fields.proofs.ReadLemmas.{drop_twice}
use Rattle.ts_fields.proofs.BitLemmas.{length-bits_of}
use Rattle.ts_fields.proofs.AgainLemmas.{both, number_again, bytes_again, rows_again}
use Rattle.ts_fields.proofs.TakesLemmas.{bytes_takes, empty}
use Rattle.ts_fields.proofs.ItemLemmas.{items_again}

-- so many bytes are there
bytes_there : (n : ℕ) (l : List Bool) → 8 * n ≤ length l → (x : List ℕ × List Bool) × (read_bytes n l ≡ Some x)
unfolding read_bytes read_number
bytes_there zero l long = (([], l), refl)
bytes_there (suc n) l long =
    let test = le-leb 8 (length l) (omega arith) in
    let more = bytes_there n (drop 8 l) (omega (arith, ap length (take-append-drop 8 l), length-append (take 8 l) (drop 8 l), few_taken 8 l)) in
    ((number_of (take 8 l) ∷ more.0.0, more.0.1), rw (test, more.1) refl)
  where
    few_taken : (n : ℕ) (xs : List Bool) → length (take n xs) ≤ n
    few_taken zero xs = omega arith
    few_taken (suc n) [] = omega arith
    few_taken (suc n) (x ∷ xs) = omega (arith, few_taken n xs)

-- whole bytes are the bits of bytes
whole_bytes : (l : List Bool) → length l % 8 ≡ 0
    → (b : List ℕ) × (l ≡ bits_of b) × (length b ≡ length l / 8) × (are_bytes b ≡ true)
whole_bytes l whole =
    let there = bytes_there (length l / 8) l (omega arith) in
    let took = bytes_takes (length l / 8) l there.0.0 there.0.1 there.1 in
    let sum = ap length took.0 ∙ length-append (bits_of there.0.0) there.0.1 in
    let none : there.0.1 ≡ [] = empty there.0.1 (omega (arith, sum, length-bits_of there.0.0, took.1)) in
    (there.0.0, took.0 ∙ ap (λ r. bits_of there.0.0 ++ r) none ∙ append-nil (bits_of there.0.0), took.1, took.2)

pub loop_again : (rs : List Row) (items : List (List Held)) (rest : List Bool) → all_fit rs items ≡ true
    → IsTrue (items_sound (Some ([], rs))) → length (flat_map (spell_rows rs) items) % 8 ≡ 0
    → length (flat_map (spell_rows rs) items) < 2048
    → read_loop rs (spell_loop rs items ++ rest) ≡ Some (items, rest)
unfolding read_loop
loop_again rs items rest fit sound whole few =
    let flat = flat_map (spell_rows rs) items in
    let row = whole_bytes flat whole in
    let small : length flat / 8 % 2 ^ 8 ≡ length row.0 = omega (arith, row.2) in
    let first : read_number 8 (spell_loop rs items ++ rest) ≡ Some (length row.0, bits_of row.0 ++ rest) =
    ap (read_number 8) (append_assoc (bits 8 (length flat / 8)) flat rest) ∙ number_again 8 (length flat / 8) (flat ++ rest)
    ∙ ap (λ n. Some (n, flat ++ rest)) small ∙ ap (λ l. Some (length row.0, l ++ rest)) row.1 in
    let second : read_bytes (length row.0) (bits_of row.0 ++ rest) ≡ Some (row.0, rest) = bytes_again row.0 rest row.3 in
    let long : length (flat_map (spell_rows rs) items) ≤ length (bits_of row.0) = omega (arith, ap length row.1) in
    let third : read_items (length (bits_of row.0)) rs (bits_of row.0) ≡ Some items = ap (read_items (length (bits_of row.0)) rs) (sym row.1) ∙ items_again (length (bits_of row.0)) rs items fit sound long in
    rw (first, second, third) refl

-- the first value, and those after it, among the values in front
first_parts : (k : Kind) (values : List Held) (m : ℕ) → field_fits k (slice_get values 0) ≡ true
    → (field_fits k (slice_get (take (holds k + m) values) 0) ≡ true) × (spell_field k (slice_get (take (holds k + m) values) 0) ≡ spell_field k (slice_get values 0)) × (drop (holds k) (take (holds k + m) values) ≡ take m (drop (holds k) values))
unfolding spell_field
first_parts (Ones count) values m fit = let same : 0 + m ≡ m = omega arith in (refl, refl, ap (λ n. take n values) same)
first_parts (Free count) values m fit = let same : 0 + m ≡ m = omega arith in (refl, refl, ap (λ n. take n values) same)
first_parts (Number count) [] m fit = cc
first_parts (Number count) (v ∷ vs) m fit = let up : 1 + m ≡ suc m = omega arith in rw up (fit, refl, refl)
first_parts (Reserved count) [] m fit = cc
first_parts (Zeros count) [] m fit = cc
first_parts (Reserved count) (v ∷ vs) m fit = let up : 1 + m ≡ suc m = omega arith in rw up (fit, refl, refl)
first_parts (Zeros count) (v ∷ vs) m fit = let up : 1 + m ≡ suc m = omega arith in rw up (fit, refl, refl)
first_parts Flag [] m fit = cc
first_parts Flag (v ∷ vs) m fit = let up : 1 + m ≡ suc m = omega arith in rw up (fit, refl, refl)
first_parts Start [] m fit = cc
first_parts Start (v ∷ vs) m fit = let up : 1 + m ≡ suc m = omega arith in rw up (fit, refl, refl)
first_parts Duration [] m fit = cc
first_parts Duration (v ∷ vs) m fit = let up : 1 + m ≡ suc m = omega arith in rw up (fit, refl, refl)
first_parts (Decimal digits) [] m fit = cc
first_parts (Decimal digits) (v ∷ vs) m fit = let up : 1 + m ≡ suc m = omega arith in rw up (fit, refl, refl)
first_parts Language [] m fit = cc
first_parts Language (v ∷ vs) m fit = let up : 1 + m ≡ suc m = omega arith in rw up (fit, refl, refl)
first_parts CountedText [] m fit = cc
first_parts CountedHex [] m fit = cc
first_parts CountedText (v ∷ vs) m fit = let up : 1 + m ≡ suc m = omega arith in rw up (fit, refl, refl)
first_parts CountedHex (v ∷ vs) m fit = let up : 1 + m ≡ suc m = omega arith in rw up (fit, refl, refl)
first_parts Text [] m fit = cc
first_parts Text (v ∷ vs) m fit = let up : 1 + m ≡ suc m = omega arith in rw up (fit, refl, refl)
first_parts Hex [] m fit = cc
first_parts Hex (v ∷ vs) m fit = let up : 1 + m ≡ suc m = omega arith in rw up (fit, refl, refl)

pub fits_split : (a b : List Row) (values : List Held) → fits (a ++ b) values ≡ true
    → (fits a (take (held_by a) values) ≡ true) × (fits b (drop (held_by a) values) ≡ true) × (spell_rows a (take (held_by a) values) ≡ spell_rows a values)
unfolding fits spell_rows
fits_split [] b values fit = (refl, fit, refl)
fits_split (r ∷ rs) b values fit =
    let parts = both (field_fits r.kind (slice_get values 0)) (fits (rs ++ b) (drop (holds r.kind) values)) fit in
    let others = fits_split rs b (drop (holds r.kind) values) parts.1 in
    let first = first_parts r.kind values (held_by rs) parts.0 in (
      rw (first.0, first.2, others.0) refl,
      ap (fits b) (sym (drop_twice (holds r.kind) (held_by rs) values)) ∙ others.1,
      rw (first.1, first.2, others.2) refl,
    )

no_goal : (a : Bool) (bs : List Bool) → IsTrue (not a) → a ≡ true → bs ≡ []
no_goal true bs closed is = cc
no_goal false bs closed is = cc

pub around_again : (front rs back : List Row) (h : Holding) → fits (front ++ back) h.head ≡ true → all_fit rs h.items ≡ true
    → ends_last front ≡ true → IsTrue (not (is_open front)) → ends_last back ≡ true → IsTrue (items_sound (Some ([], rs)))
    → length (flat_map (spell_rows rs) h.items) % 8 ≡ 0 → length (flat_map (spell_rows rs) h.items) < 2048
    → read_around front rs back (spell_around front rs back h) ≡ Some h
around_again front rs back h fit items_fit ends closed ends_back sound whole few =
    let va = take (held_by front) h.head in
    let vb = drop (held_by front) h.head in
    let parts = fits_split front back h.head fit in
    let rest = spell_loop rs h.items ++ spell_rows back vb in
    let none : is_open front ≡ true → rest ≡ [] = λ goes. no_goal (is_open front) rest closed goes in
    let nothing : is_open back ≡ true → [] ≡ [] = λ goes. refl in
    let one : read_rows front (spell_rows front h.head ++ rest) ≡ Some (va, rest) = ap (λ l. read_rows front (l ++ rest)) (sym parts.2) ∙ rows_again front va rest parts.0 ends none in
    let two = loop_again rs h.items (spell_rows back vb) items_fit sound whole few in
    let three : read_rows back (spell_rows back vb) ≡ Some (vb, []) = ap (read_rows back) (sym (append-nil (spell_rows back vb))) ∙ rows_again back vb [] parts.1 ends_back nothing in
    let joined : va ++ vb ≡ h.head = take-append-drop (held_by front) h.head in
    rw (one, two, three) (ap (λ l. Some (record { head = l; items = h.items })) joined)
