-- Values whose counted texts may have any length: they have numbers where fields hold numbers, and in few bits they
-- fit.
use Rattle.std.proofs.Common.{◌≡◌, ℕ, ◌+◌, ◌/◌, ◌≤◌, Bool, true, List, [], ◌∷◌, ◌++◌, length, take, drop, refl, sym, ap, ◌∙◌, arith, append_assoc, length-append}
use Rattle.std.specs.Prelude.{nat_lt, Option, Some, None, slice_get, IsTrue}
use Rattle.std.specs.List.{flat_map, list_all}
use Rattle.std.proofs.lemmas.Bool.{lt-ltb}
use Rattle.ts_fields.specs.declared.field.Kind.{Kind}
use Rattle.ts_fields.specs.declared.field.Kind.TheVariants.{Number, Reserved, Zeros, Ones, Free, Flag, Start, Duration, Decimal, Language, CountedText, CountedHex, Text, Hex}
use Rattle.ts_fields.specs.Bits.{bits, bits_of}
use Rattle.ts_fields.specs.Layout.{Row, Held, number, bytes}
use Rattle.ts_fields.specs.Spelling.{spell_field, spell_rows, holds}
use Rattle.ts_fields.specs.Fitting.{number_passes, is_number, field_fits, fits, field_fits_uncounted, fits_uncounted, field_shaped, shaped, are_bytes}
use Rattle.ts_fields.specs.Bodies.{Page, Holding, held_by, item_rows, place_sound, page_sound, spell_by, spell_loop, items_shaped, page_shaped, spell_items, spell_page, items_fit, page_fits, items_fit_uncounted, page_fits_uncounted}
use Rattle.std.proofs.lemmas.List.{take-append-drop}
use Rattle.ts_fields.proofs.ReadLemmas.{drop_twice, right_true}
use Rattle.ts_fields.proofs.AgainLemmas.{both}
use Rattle.ts_fields.proofs.BitLemmas.{length-bits, length-bits_of}

tested_number : (value : Option Held) (test : ℕ → Bool) → number_passes value test ≡ true
    → is_number value ≡ true
tested_number None test fit = cc
tested_number (Some (number n)) test fit = refl
tested_number (Some (bytes b)) test fit = cc

field_is_shaped : (k : Kind) (value : Option Held) → field_fits_uncounted k value ≡ true
    → field_shaped k value ≡ true
field_is_shaped (Number count) value fit = tested_number value _ fit
field_is_shaped (Reserved count) value fit = tested_number value _ fit
field_is_shaped (Zeros count) value fit = tested_number value _ fit
field_is_shaped (Ones count) value fit = refl
field_is_shaped (Free count) value fit = refl
field_is_shaped Flag value fit = tested_number value _ fit
field_is_shaped Start value fit = tested_number value _ fit
field_is_shaped Duration value fit = tested_number value _ fit
field_is_shaped (Decimal digits) value fit = tested_number value _ fit
field_is_shaped Language value fit = refl
field_is_shaped CountedText value fit = refl
field_is_shaped CountedHex value fit = refl
field_is_shaped Text value fit = refl
field_is_shaped Hex value fit = refl

-- what fits with a bound on texts fits without it
field_fits_so : (k : Kind) (value : Option Held) → field_fits k value ≡ true
    → field_fits_uncounted k value ≡ true
field_fits_so (Number count) value fit = fit
field_fits_so (Reserved count) value fit = fit
field_fits_so (Zeros count) value fit = fit
field_fits_so (Ones count) value fit = fit
field_fits_so (Free count) value fit = fit
field_fits_so Flag value fit = fit
field_fits_so Start value fit = fit
field_fits_so Duration value fit = fit
field_fits_so (Decimal digits) value fit = fit
field_fits_so Language value fit = fit
field_fits_so CountedText None fit = cc
field_fits_so CountedHex None fit = cc
field_fits_so CountedText (Some (number n)) fit = cc
field_fits_so CountedHex (Some (number n)) fit = cc
field_fits_so CountedText (Some (bytes b)) fit = (both (nat_lt (length b) 256) (are_bytes b) fit).1
field_fits_so CountedHex (Some (bytes b)) fit = (both (nat_lt (length b) 256) (are_bytes b) fit).1
field_fits_so Text value fit = fit
field_fits_so Hex value fit = fit

rows_shaped_so : (rs : List Row) (values : List Held) → fits_uncounted rs values ≡ true
    → shaped rs values ≡ true
unfolding fits_uncounted shaped
rows_shaped_so [] values fit = refl
rows_shaped_so (r ∷ rs) values fit =
    let parts = both (field_fits_uncounted r.kind (slice_get values 0)) (fits_uncounted rs (drop (holds r.kind) values)) fit in
    rw (field_is_shaped r.kind (slice_get values 0) parts.0, rows_shaped_so rs (drop (holds r.kind) values) parts.1) refl

pub rows_are_shaped : (rs : List Row) (values : List Held) → fits rs values ≡ true → shaped rs values ≡ true
unfolding fits shaped
rows_are_shaped [] values fit = refl
rows_are_shaped (r ∷ rs) values fit =
    let parts = both (field_fits r.kind (slice_get values 0)) (fits rs (drop (holds r.kind) values)) fit in
    rw (field_is_shaped r.kind (slice_get values 0) (field_fits_so r.kind (slice_get values 0) parts.0), rows_are_shaped rs (drop (holds r.kind) values) parts.1) refl

all_shaped_so : (rs : List Row) (items : List (List Held)) → list_all (fits_uncounted rs) items ≡ true
    → list_all (shaped rs) items ≡ true
all_shaped_so rs [] fit = refl
all_shaped_so rs (item ∷ items) fit =
    let parts = both (fits_uncounted rs item) (list_all (fits_uncounted rs) items) fit in
    rw (rows_shaped_so rs item parts.0, all_shaped_so rs items parts.1) refl

items_shaped_so : (i : Option (List ℕ × List Row)) (items : List (List Held))
    → items_fit_uncounted i items ≡ true → items_shaped i items ≡ true
items_shaped_so None items fit = refl
items_shaped_so (Some i) items fit = all_shaped_so i.1 items fit

pub page_shaped_so : (p : Page) (h : Holding) → page_fits_uncounted p h ≡ true → page_shaped p h ≡ true
page_shaped_so p h fit =
    let parts = both (fits_uncounted p.head h.head) (items_fit_uncounted p.items h.items) fit in
    rw (rows_shaped_so p.head h.head parts.0, items_shaped_so p.items h.items parts.1) refl

all_are_shaped : (rs : List Row) (items : List (List Held)) → list_all (fits rs) items ≡ true
    → list_all (shaped rs) items ≡ true
all_are_shaped rs [] fit = refl
all_are_shaped rs (item ∷ items) fit =
    let parts = both (fits rs item) (list_all (fits rs) items) fit in
    rw (rows_are_shaped rs item parts.0, all_are_shaped rs items parts.1) refl

pub items_are_shaped : (i : Option (List ℕ × List Row)) (items : List (List Held)) → items_fit i items ≡ true
    → items_shaped i items ≡ true
items_are_shaped None items fit = refl
items_are_shaped (Some i) items fit = all_are_shaped i.1 items fit

pub page_is_shaped : (p : Page) (h : Holding) → page_fits p h ≡ true → page_shaped p h ≡ true
page_is_shaped p h fit =
    let parts = both (fits p.head h.head) (items_fit p.items h.items) fit in
    rw (rows_are_shaped p.head h.head parts.0, items_are_shaped p.items h.items parts.1) refl

-- a counted text in few bits has few bytes
small_field : (k : Kind) (value : Option Held) → field_fits_uncounted k value ≡ true
    → length (spell_field k value) ≤ 2040 → field_fits k value ≡ true
unfolding spell_field
small_field (Number count) value fit small = fit
small_field (Reserved count) value fit small = fit
small_field (Zeros count) value fit small = fit
small_field (Ones count) value fit small = fit
small_field (Free count) value fit small = fit
small_field Flag value fit small = fit
small_field Start value fit small = fit
small_field Duration value fit small = fit
small_field (Decimal digits) value fit small = fit
small_field Language value fit small = fit
small_field CountedText None fit small = cc
small_field CountedHex None fit small = cc
small_field CountedText (Some (number n)) fit small = cc
small_field CountedHex (Some (number n)) fit small = cc
small_field CountedText (Some (bytes b)) fit small =
    let few : nat_lt (length b) 256 ≡ true = lt-ltb (length b) 256 (omega (arith, length-append (bits 8 (length b)) (bits_of b), length-bits 8 (length b), length-bits_of b)) in
    rw (few, fit) refl
small_field CountedHex (Some (bytes b)) fit small =
    let few : nat_lt (length b) 256 ≡ true = lt-ltb (length b) 256 (omega (arith, length-append (bits 8 (length b)) (bits_of b), length-bits 8 (length b), length-bits_of b)) in
    rw (few, fit) refl
small_field Text value fit small = fit
small_field Hex value fit small = fit

small_rows : (rs : List Row) (values : List Held) → fits_uncounted rs values ≡ true
    → length (spell_rows rs values) ≤ 2040 → fits rs values ≡ true
unfolding fits_uncounted fits spell_rows
small_rows [] [] fit small = refl
small_rows [] (v ∷ vs) fit small = cc
small_rows (r ∷ rs) values fit small =
    let parts = both (field_fits_uncounted r.kind (slice_get values 0)) (fits_uncounted rs (drop (holds r.kind) values)) fit in
    let sum = length-append (spell_field r.kind (slice_get values 0)) (spell_rows rs (drop (holds r.kind) values)) in
    rw (small_field r.kind (slice_get values 0) parts.0 (omega arith), small_rows rs (drop (holds r.kind) values) parts.1 (omega arith)) refl

small_all : (rs : List Row) (items : List (List Held)) → list_all (fits_uncounted rs) items ≡ true
    → length (flat_map (spell_rows rs) items) ≤ 2040 → list_all (fits rs) items ≡ true
small_all rs [] fit small = refl
small_all rs (item ∷ items) fit small =
    let parts = both (fits_uncounted rs item) (list_all (fits_uncounted rs) items) fit in
    let sum = length-append (spell_rows rs item) (flat_map (spell_rows rs) items) in
    rw (small_rows rs item parts.0 (omega arith), small_all rs items parts.1 (omega arith)) refl

small_items : (i : Option (List ℕ × List Row)) (items : List (List Held))
    → items_fit_uncounted i items ≡ true → length (spell_items i items) ≤ 2040 → items_fit i items ≡ true
small_items None [] fit small = refl
small_items None (item ∷ items) fit small = cc
small_items (Some i) items fit small = small_all i.1 items fit small

-- the bits of rows and of more rows after them
pub spell_split : (a b : List Row) (values : List Held)
    → spell_rows (a ++ b) values ≡ spell_rows a values ++ spell_rows b (drop (held_by a) values)
unfolding spell_rows
spell_split [] b values = refl
spell_split (r ∷ rs) b values =
    ap (λ l. spell_field r.kind (slice_get values 0) ++ l) (spell_split rs b (drop (holds r.kind) values))
    ∙ ap (λ l. spell_field r.kind (slice_get values 0) ++ (spell_rows rs (drop (holds r.kind) values) ++ spell_rows b l)) (drop_twice (holds r.kind) (held_by rs) values)
    ∙ sym (append_assoc (spell_field r.kind (slice_get values 0)) (spell_rows rs (drop (holds r.kind) values)) (spell_rows b (drop (holds r.kind + held_by rs) values)))

small_by : (c : Option ℕ) (p : Page) (h : Holding) → page_fits_uncounted p h ≡ true → IsTrue (place_sound c p)
    → length (spell_by c p h) ≤ 2040 → page_fits p h ≡ true
small_by None p h fit place small =
    let parts = both (fits_uncounted p.head h.head) (items_fit_uncounted p.items h.items) fit in
    let sum = length-append (spell_rows p.head h.head) (spell_items p.items h.items) in
    rw (small_rows p.head h.head parts.0 (omega arith), small_items p.items h.items parts.1 (omega arith)) refl
small_by (Some n) p h fit place small =
    let parts = both (fits_uncounted p.head h.head) (items_fit_uncounted p.items h.items) fit in
    let front = take n p.head in
    let back = drop n p.head in
    let rs = item_rows p.items in
    let last = spell_rows back (drop (held_by front) h.head) in
    let flat = flat_map (spell_rows rs) h.items in
    let sum = length-append (spell_rows front h.head) (spell_loop rs h.items ++ last) in
    let sum_two = length-append (spell_loop rs h.items) last in
    let sum_three = length-append (bits 8 (length flat / 8)) flat in
    let rows : spell_rows p.head h.head ≡ spell_rows front h.head ++ last = ap (λ l. spell_rows l h.head) (sym (take-append-drop n p.head)) ∙ spell_split front back h.head in
    let few : length (spell_rows p.head h.head) ≤ 2040 = omega (arith, ap length rows, length-append (spell_rows front h.head) last, sum, sum_two, small) in
    let inner : length (spell_items p.items h.items) ≤ 2040 = few_items p.items h.items (omega (arith, sum, sum_two, sum_three, small)) in
    rw (small_rows p.head h.head parts.0 few, small_items p.items h.items parts.1 inner) refl
  where
    few_items : (i : Option (List ℕ × List Row)) (items : List (List Held)) → length (flat_map (spell_rows (item_rows i)) items) ≤ 2040
        → length (spell_items i items) ≤ 2040
    few_items None items few = omega arith
    few_items (Some i) items few = few

-- in few bits every value fits
pub small_page : (p : Page) (h : Holding) → page_fits_uncounted p h ≡ true → IsTrue (page_sound p)
    → length (spell_page p h) ≤ 2040 → page_fits p h ≡ true
unfolding spell_page
small_page p h fit sound small = small_by p.counted p h fit (right_true _ _ sound) small
