-- The number of bits of fields and bodies.
use Rattle.std.proofs.Common.{◌≡◌, ℕ, zero, suc, ◌+◌, ◌-◌, ◌*◌, ◌/◌, ◌%◌, ◌^◌, ◌<◌, ◌≤◌, Bool, true, List, [], ◌∷◌, ◌++◌, length, take, drop, refl, sym, ap, ◌∙◌, arith, length-append}
use Rattle.std.specs.Prelude.{nat_eq, nat_lt, Option, Some, None, slice_get, IsTrue, ◌&&◌, not, is_none}
use Rattle.std.proofs.lemmas.Bool.{eqb-true, ltb-true}
use Rattle.ts_fields.specs.declared.field.Kind.{Kind}
use Rattle.ts_fields.specs.declared.field.Kind.TheVariants.{Number, Reserved, Zeros, Ones, Free, Flag, Start, Duration, Decimal, Language, CountedText, CountedHex, Text, Hex}
use Rattle.ts_fields.specs.Bits.{bits, bits_of}
use Rattle.ts_fields.specs.Layout.{Row, Held, number, bytes}
use Rattle.ts_fields.specs.Reading.{are_printable, read_rows}
use Rattle.ts_fields.specs.Spelling.{spell_decimal, spell_field, spell_rows, holds}
use Rattle.ts_fields.specs.Bodies.{items_shaped, all_shaped, page_shaped, Page, Holding, items_sound, page_sound, place_sound, held_by, item_rows, spell_items, spell_loop, spell_by, spell_page}
use Rattle.ts_fields.specs.Fitting.{field_fits, field_shaped, shaped, fits}
use Rattle.ts_fields.specs.SoundRows.{width, widths, least, leasts, rows_sound, is_open}
use Rattle.std.specs.List.{flat_map}
use Rattle.std.proofs.lemmas.List.{take-append-drop}
use Rattle.ts_fields.proofs.ReadLemmas.{left_true, right_true, drop_twice}
use Rattle.ts_fields.proofs.BitLemmas.{length-bits, length-bits_of}
use Rattle.ts_fields.proofs.AgainLemmas.{both}
use Rattle.ts_fields.proofs.TakesLemmas.{rows_length}

length-decimal : (d v : ℕ) → length (spell_decimal d v) ≡ 4 * d
unfolding spell_decimal
length-decimal zero v = refl
length-decimal (suc d) v = length-append (bits 4 (v / 10 ^ d % 10)) (spell_decimal d v) ∙ omega (arith, length-bits 4 (v / 10 ^ d % 10), length-decimal d v)

-- a field takes its width, and whole bytes besides
length-field : (k : Kind) (value : Option Held) → field_shaped k value ≡ true
    → (more : ℕ) × (length (spell_field k value) ≡ width k + 8 * more)
unfolding spell_field
length-field (Number count) None fit = cc
length-field (Reserved count) None fit = cc
length-field (Zeros count) None fit = cc
length-field (Number count) (Some (bytes b)) fit = cc
length-field (Reserved count) (Some (bytes b)) fit = cc
length-field (Zeros count) (Some (bytes b)) fit = cc
length-field (Number count) (Some (number n)) fit = (0, omega (arith, length-bits count n))
length-field (Reserved count) (Some (number n)) fit = (0, omega (arith, length-bits count n))
length-field (Zeros count) (Some (number n)) fit = (0, omega (arith, length-bits count n))
length-field (Ones count) value fit = (0, omega (arith, length-bits count (2 ^ count - 1)))
length-field (Free count) value fit = (0, omega (arith, length-bits count (2 ^ count - 1)))
length-field Flag None fit = cc
length-field Flag (Some (bytes b)) fit = cc
length-field Flag (Some (number n)) fit = (0, omega (arith, length-bits 1 n))
length-field Start None fit = cc
length-field Start (Some (bytes b)) fit = cc
length-field Start (Some (number n)) fit = (0, omega (arith, length-bits 40 n))
length-field Duration None fit = cc
length-field Duration (Some (bytes b)) fit = cc
length-field Duration (Some (number n)) fit = (0, omega (arith, length-bits 24 n))
length-field (Decimal digits) None fit = cc
length-field (Decimal digits) (Some (bytes b)) fit = cc
length-field (Decimal digits) (Some (number n)) fit = (0, omega (arith, length-decimal digits n))
length-field Language None fit = (0, refl)
length-field Language (Some (number n)) fit = (0, refl)
length-field Language (Some (bytes b)) fit = (length b, omega (arith, length-bits_of b))
length-field CountedText None fit = (0, refl)
length-field CountedHex None fit = (0, refl)
length-field CountedText (Some (number n)) fit = (0, refl)
length-field CountedHex (Some (number n)) fit = (0, refl)
length-field CountedText (Some (bytes b)) fit = (1 + length b, length-append (bits 8 (length b)) (bits_of b) ∙ omega (arith, length-bits 8 (length b), length-bits_of b))
length-field CountedHex (Some (bytes b)) fit = (1 + length b, length-append (bits 8 (length b)) (bits_of b) ∙ omega (arith, length-bits 8 (length b), length-bits_of b))
length-field Text None fit = (0, refl)
length-field Text (Some (number n)) fit = (0, refl)
length-field Text (Some (bytes b)) fit = (length b, omega (arith, length-bits_of b))
length-field Hex None fit = (0, refl)
length-field Hex (Some (number n)) fit = (0, refl)
length-field Hex (Some (bytes b)) fit = (length b, omega (arith, length-bits_of b))

pub length-shaped : (rs : List Row) (values : List Held) → shaped rs values ≡ true
    → (more : ℕ) × (length (spell_rows rs values) ≡ widths rs + 8 * more)
unfolding spell_rows shaped
length-shaped [] values fit = (0, refl)
length-shaped (r ∷ rs) values fit =
    let parts = both (field_shaped r.kind (slice_get values 0)) (shaped rs (drop (holds r.kind) values)) fit in
    let one = length-field r.kind (slice_get values 0) parts.0 in
    let others = length-shaped rs (drop (holds r.kind) values) parts.1 in
    let sum = length-append (spell_field r.kind (slice_get values 0)) (spell_rows rs (drop (holds r.kind) values)) in
    (one.0 + others.0, sum ∙ omega (arith, one.1, others.1))

least_field : (k : Kind) (value : Option Held) → field_fits k value ≡ true
    → least k ≤ length (spell_field k value)
unfolding spell_field
least_field (Number count) None fit = cc
least_field (Reserved count) None fit = cc
least_field (Zeros count) None fit = cc
least_field (Number count) (Some (bytes b)) fit = cc
least_field (Reserved count) (Some (bytes b)) fit = cc
least_field (Zeros count) (Some (bytes b)) fit = cc
least_field (Number count) (Some (number n)) fit = omega (arith, length-bits count n)
least_field (Reserved count) (Some (number n)) fit = omega (arith, length-bits count n)
least_field (Zeros count) (Some (number n)) fit = omega (arith, length-bits count n)
least_field (Ones count) value fit = omega (arith, length-bits count (2 ^ count - 1))
least_field (Free count) value fit = omega (arith, length-bits count (2 ^ count - 1))
least_field Flag None fit = cc
least_field Flag (Some (bytes b)) fit = cc
least_field Flag (Some (number n)) fit = omega (arith, length-bits 1 n)
least_field Start None fit = cc
least_field Start (Some (bytes b)) fit = cc
least_field Start (Some (number n)) fit = omega (arith, length-bits 40 n)
least_field Duration None fit = cc
least_field Duration (Some (bytes b)) fit = cc
least_field Duration (Some (number n)) fit = omega (arith, length-bits 24 n)
least_field (Decimal digits) None fit = cc
least_field (Decimal digits) (Some (bytes b)) fit = cc
least_field (Decimal digits) (Some (number n)) fit = omega (arith, length-decimal digits n)
least_field Language None fit = cc
least_field Language (Some (number n)) fit = cc
least_field Language (Some (bytes b)) fit =
    let three : length b ≡ 3 = eqb-true (length b) 3 (both (nat_eq (length b) 3) (are_printable b) fit).0 in
    omega (arith, length-bits_of b)
least_field CountedText None fit = cc
least_field CountedHex None fit = cc
least_field CountedText (Some (number n)) fit = cc
least_field CountedHex (Some (number n)) fit = cc
least_field CountedText (Some (bytes b)) fit =
    let sum = length-append (bits 8 (length b)) (bits_of b) in omega (arith, length-bits 8 (length b))
least_field CountedHex (Some (bytes b)) fit =
    let sum = length-append (bits 8 (length b)) (bits_of b) in omega (arith, length-bits 8 (length b))
least_field Text value fit = omega arith
least_field Hex value fit = omega arith

-- fields take their least number of bits
pub least_rows : (rs : List Row) (values : List Held) → fits rs values ≡ true
    → leasts rs ≤ length (spell_rows rs values)
unfolding spell_rows fits
least_rows [] values fit = omega arith
least_rows (r ∷ rs) values fit =
    let parts = both (field_fits r.kind (slice_get values 0)) (fits rs (drop (holds r.kind) values)) fit in
    let one = least_field r.kind (slice_get values 0) parts.0 in
    let others = least_rows rs (drop (holds r.kind) values) parts.1 in
    let sum = length-append (spell_field r.kind (slice_get values 0)) (spell_rows rs (drop (holds r.kind) values)) in
    omega (arith, one, others, sum)

-- an item takes some bits
pub takes_bits : (rs : List Row) (from : List Bool) (values : List Held) (rest : List Bool)
    → nat_lt 0 (leasts rs) ≡ true → read_rows rs from ≡ Some (values, rest) → length rest < length from
takes_bits rs from values rest some is =
    let took = rows_length rs from values rest is in
    let long = least_rows rs values took.1 in
    omega (arith, took.0, long, ltb-true 0 (leasts rs) some)

pub length-items : (rs : List Row) (items : List (List Held)) → all_shaped rs items ≡ true
    → nat_eq (widths rs % 8) 0 ≡ true → length (flat_map (spell_rows rs) items) % 8 ≡ 0
length-items rs [] fit whole = refl
length-items rs (item ∷ items) fit whole =
    let parts = both (shaped rs item) (all_shaped rs items) fit in
    let one = length-shaped rs item parts.0 in
    let others = length-items rs items parts.1 whole in
    let zero_bits : widths rs % 8 ≡ 0 = eqb-true (widths rs % 8) 0 whole in
    let sum = length-append (spell_rows rs item) (flat_map (spell_rows rs) items) in
    omega (arith, one.1)

pub length-after : (i : Option (List ℕ × List Row)) (items : List (List Held)) → items_shaped i items ≡ true
    → IsTrue (items_sound i) → length (spell_items i items) % 8 ≡ 0
length-after None items fit sound = refl
length-after (Some i) items fit sound = length-items i.1 items fit (right_true _ _ (left_true _ _ (left_true _ _ sound)))

-- values of rows and of more rows after them
pub shaped_split : (a b : List Row) (values : List Held) → shaped (a ++ b) values ≡ true
    → (shaped a values ≡ true) × (shaped b (drop (held_by a) values) ≡ true)
unfolding shaped
shaped_split [] b values fit = (refl, fit)
shaped_split (r ∷ rs) b values fit =
    let parts = both (field_shaped r.kind (slice_get values 0)) (shaped (rs ++ b) (drop (holds r.kind) values)) fit in
    let others = shaped_split rs b (drop (holds r.kind) values) parts.1 in
    (rw (parts.0, others.0) refl, ap (shaped b) (sym (drop_twice (holds r.kind) (held_by rs) values)) ∙ others.1)

-- rows of whole bytes spell whole bytes
pub whole_rows : (rs : List Row) (values : List Held) → IsTrue (rows_sound rs) → shaped rs values ≡ true
    → length (spell_rows rs values) % 8 ≡ 0
whole_rows rs values sound fit =
    let one = length-shaped rs values fit in
    let zero_bits : widths rs % 8 ≡ 0 = eqb-true (widths rs % 8) 0 (right_true _ _ sound) in
    omega (arith, one.1)

whole_loop : (i : Option (List ℕ × List Row)) (items : List (List Held)) → items_shaped i items ≡ true
    → IsTrue (items_sound i) → IsTrue (not (is_none i)) → length (flat_map (spell_rows (item_rows i)) items) % 8 ≡ 0
whole_loop None items fit sound some = cc
whole_loop (Some i) items fit sound some = length-after (Some i) items fit sound

length-by : (c : Option ℕ) (p : Page) (h : Holding) → IsTrue (rows_sound p.head) → IsTrue (items_sound p.items)
    → IsTrue (place_sound c p) → page_shaped p h ≡ true → length (spell_by c p h) % 8 ≡ 0
length-by None p h rows items place fit =
    let parts = both (shaped p.head h.head) (items_shaped p.items h.items) fit in
    let one = whole_rows p.head h.head rows parts.0 in
    let others = length-after p.items h.items parts.1 items in
    let sum = length-append (spell_rows p.head h.head) (spell_items p.items h.items) in
    omega (arith, one, others, sum)
length-by (Some n) p h rows items place fit =
    let parts = both (shaped p.head h.head) (items_shaped p.items h.items) fit in
    let front = take n p.head in
    let back = drop n p.head in
    let rs = item_rows p.items in
    let split = shaped_split front back h.head (ap (λ l. shaped l h.head) (take-append-drop n p.head) ∙ parts.0) in
    let after : IsTrue (rows_sound back && (not (is_open front) && not (is_none p.items))) = right_true (rows_sound front) (rows_sound back && (not (is_open front) && not (is_none p.items))) place in
    let first = whole_rows front h.head (left_true (rows_sound front) (rows_sound back && (not (is_open front) && not (is_none p.items))) place) split.0 in
    let last = whole_rows back (drop (held_by front) h.head) (left_true (rows_sound back) (not (is_open front) && not (is_none p.items)) after) split.1 in
    let there : IsTrue (not (is_none p.items)) = right_true (not (is_open front)) (not (is_none p.items)) (right_true (rows_sound back) (not (is_open front) && not (is_none p.items)) after) in
    let inner = whole_loop p.items h.items parts.1 items there in
    let flat = flat_map (spell_rows rs) h.items in
    let sum = length-append (spell_rows front h.head) (spell_loop rs h.items ++ spell_rows back (drop (held_by front) h.head)) in
    let sum_two = length-append (spell_loop rs h.items) (spell_rows back (drop (held_by front) h.head)) in
    let sum_three = length-append (bits 8 (length flat / 8)) flat in
    omega (arith, first, last, inner, sum, sum_two, sum_three, length-bits 8 (length flat / 8))

-- a body is whole bytes
pub length-page : (p : Page) (h : Holding) → IsTrue (page_sound p) → page_shaped p h ≡ true
    → length (spell_page p h) % 8 ≡ 0
unfolding spell_page
length-page p h sound fit =
    length-by p.counted p h (left_true _ _ (left_true _ _ sound)) (right_true _ _ (left_true _ _ sound)) (right_true _ _ sound) fit
