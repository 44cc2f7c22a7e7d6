-- Bodies with counted items between their rows.
use Rattle.std.proofs.Common.{◌≡◌, ℕ, zero, suc, ◌+◌, ◌/◌, ◌<◌, ◌≤◌, map, get_or, Bool, true, List, [], ◌∷◌, ◌++◌, length, take, drop, refl, sym, ap, subst, ◌∙◌, arith, append_assoc, append-nil}
use Rattle.std.specs.Prelude.{nat_eq, ◌&&◌, Option, Some, None, slice_get, IsTrue, not, is_none}
use Rattle.std.specs.List.{flat_map}
use Rattle.std.proofs.lemmas.Bool.{eqb-true}
use Rattle.std.proofs.lemmas.Option.{cond_some, same_Some}
use Rattle.std.proofs.lemmas.List.{take-append-drop}
use Rattle.ts_fields.specs.declared.field.Kind.{Kind}
use Rattle.ts_fields.specs.declared.field.Kind.TheVariants.{Number, Reserved, Zeros, Ones, Free, Flag, Start, Duration, Decimal, Language, CountedText, CountedHex, Text, Hex}
use Rattle.ts_fields.specs.Bits.{bits, bits_of}
use Rattle.ts_fields.specs.declared.field.Field.{Field}
use Rattle.ts_fields.specs.Layout.{Row, Held, held, rows_of}
use Rattle.ts_fields.specs.Reading.{read_number, read_bytes, read_rows, ◌>>=◌}
use Rattle.ts_fields.specs.Spelling.{spell_field, spell_rows, holds}
use Rattle.ts_fields.specs.SoundRows.{is_exact, are_exact, are_sound, rows_sound, is_open}
use Rattle.ts_fields.specs.declared.layout.Body.{Body}
use Rattle.ts_fields.specs.declared.layout.Item.{Item}
use Rattle.ts_fields.specs.declared.field.FieldValue.{FieldValue}
use Rattle.ts_fields.specs.Fitting.{field_fits, fits}
use Rattle.ts_fields.specs.Bodies.{Page, Holding, place_sound, body_held, item_held, all_fit, held_by, item_rows, items_exact, items_fit, read_around, read_counted, read_items, read_loop, spell_around, spell_loop}
use Rattle.ts_fields.proofs.ReadLemmas.{drop_twice, left_true, right_true}
use Rattle.ts_fields.proofs.BitLemmas.{length-bits_of}
use Rattle.ts_fields.proofs.AgainLemmas.{both}
use Rattle.ts_fields.proofs.TakesLemmas.{number_takes, bytes_takes, rows_takes, rows_length, then_some, empty}
use Rattle.ts_fields.proofs.ItemLemmas.{items_take, items_read_fit}

-- more values after those of a field change nothing
first_stays : (k : Kind) (va vb : List Held) → field_fits k (slice_get va 0) ≡ true
    → (field_fits k (slice_get (va ++ vb) 0) ≡ true) × (spell_field k (slice_get (va ++ vb) 0) ≡ spell_field k (slice_get va 0)) × (drop (holds k) (va ++ vb) ≡ drop (holds k) va ++ vb)
unfolding spell_field
first_stays (Ones count) va vb fit = (refl, refl, refl)
first_stays (Free count) va vb fit = (refl, refl, refl)
first_stays (Number count) [] vb fit = cc
first_stays (Reserved count) [] vb fit = cc
first_stays (Zeros count) [] vb fit = cc
first_stays (Number count) (v ∷ vs) vb fit = (fit, refl, refl)
first_stays (Reserved count) (v ∷ vs) vb fit = (fit, refl, refl)
first_stays (Zeros count) (v ∷ vs) vb fit = (fit, refl, refl)
first_stays Flag [] vb fit = cc
first_stays Flag (v ∷ vs) vb fit = (fit, refl, refl)
first_stays Start [] vb fit = cc
first_stays Start (v ∷ vs) vb fit = (fit, refl, refl)
first_stays Duration [] vb fit = cc
first_stays Duration (v ∷ vs) vb fit = (fit, refl, refl)
first_stays (Decimal digits) [] vb fit = cc
first_stays (Decimal digits) (v ∷ vs) vb fit = (fit, refl, refl)
first_stays Language [] vb fit = cc
first_stays Language (v ∷ vs) vb fit = (fit, refl, refl)
first_stays CountedText [] vb fit = cc
first_stays CountedHex [] vb fit = cc
first_stays CountedText (v ∷ vs) vb fit = (fit, refl, refl)
first_stays CountedHex (v ∷ vs) vb fit = (fit, refl, refl)
first_stays Text [] vb fit = cc
first_stays Text (v ∷ vs) vb fit = (fit, refl, refl)
first_stays Hex [] vb fit = cc
first_stays Hex (v ∷ vs) vb fit = (fit, refl, refl)

fits_join : (a b : List Row) (va vb : List Held) → fits a va ≡ true → fits b vb ≡ true
    → fits (a ++ b) (va ++ vb) ≡ true
unfolding fits
fits_join [] b [] vb fa fb = fb
fits_join [] b (v ∷ vs) vb fa fb = cc
fits_join (r ∷ rs) b va vb fa fb =
    let parts = both (field_fits r.kind (slice_get va 0)) (fits rs (drop (holds r.kind) va)) fa in
    let first = first_stays r.kind va vb parts.0 in
    rw (first.0, first.2, fits_join rs b (drop (holds r.kind) va) vb parts.1 fb) refl

pub spell_stays : (a : List Row) (va vb : List Held) → fits a va ≡ true → spell_rows a (va ++ vb) ≡ spell_rows a va
unfolding fits spell_rows
spell_stays [] va vb fa = refl
spell_stays (r ∷ rs) va vb fa =
    let parts = both (field_fits r.kind (slice_get va 0)) (fits rs (drop (holds r.kind) va)) fa in
    let first = first_stays r.kind va vb parts.0 in
    rw (first.1, first.2, spell_stays rs (drop (holds r.kind) va) vb parts.1) refl

pub drop_stays : (a : List Row) (va vb : List Held) → fits a va ≡ true → drop (held_by a) (va ++ vb) ≡ vb
unfolding fits
drop_stays [] [] vb fa = refl
drop_stays [] (v ∷ vs) vb fa = cc
drop_stays (r ∷ rs) va vb fa =
    let parts = both (field_fits r.kind (slice_get va 0)) (fits rs (drop (holds r.kind) va)) fa in
    let first = first_stays r.kind va vb parts.0 in
    sym (drop_twice (holds r.kind) (held_by rs) (va ++ vb)) ∙ ap (drop (held_by rs)) first.2
    ∙ drop_stays rs (drop (holds r.kind) va) vb parts.1

loop_takes : (rs : List Row) (from : List Bool) (items : List (List Held)) (rest : List Bool)
    → are_exact rs ≡ true → read_loop rs from ≡ Some (items, rest)
    → (from ≡ spell_loop rs items ++ rest) × (all_fit rs items ≡ true)
unfolding read_loop
loop_takes rs from items rest exact is =
    then_some (read_number 8 from) _ (items, rest) is (λ count was later.
    then_some (read_bytes count.0 count.1) _ (items, rest) later (λ x had last.
    then_some (read_items (length (bits_of x.0)) rs (bits_of x.0)) (λ all. Some (all, x.1)) (items, rest) last (λ all read joins.
    let items_is : all ≡ items = ap (λ y. y.0) (same_Some _ _ joins) in
    let rest_is : x.1 ≡ rest = ap (λ y. y.1) (same_Some _ _ joins) in
    let one = number_takes 8 from count.0 count.1 was in
    let row = bytes_takes count.0 count.1 x.0 x.1 had in
    let took = items_take (length (bits_of x.0)) rs (bits_of x.0) all exact read in
    let long : length (flat_map (spell_rows rs) all) / 8 ≡ count.0 = omega (arith, ap length took.0, length-bits_of x.0, row.1) in
    let here : from ≡ bits 8 count.0 ++ (flat_map (spell_rows rs) all ++ x.1) = one.0 ∙ ap (λ l. bits 8 count.0 ++ l) (row.0 ∙ ap (λ l. l ++ x.1) took.0) in
    let there : spell_loop rs all ++ x.1 ≡ bits 8 count.0 ++ (flat_map (spell_rows rs) all ++ x.1) = append_assoc (bits 8 (length (flat_map (spell_rows rs) all) / 8)) (flat_map (spell_rows rs) all) x.1 ∙ ap (λ n. bits 8 n ++ (flat_map (spell_rows rs) all ++ x.1)) long in
    rw (← items_is, ← rest_is) (here ∙ sym there, took.1))))

loop_fits : (rs : List Row) (from : List Bool) (items : List (List Held)) (rest : List Bool)
    → read_loop rs from ≡ Some (items, rest) → all_fit rs items ≡ true
unfolding read_loop
loop_fits rs from items rest is =
    then_some (read_number 8 from) _ (items, rest) is (λ count was later.
    then_some (read_bytes count.0 count.1) _ (items, rest) later (λ x had last.
    then_some (read_items (length (bits_of x.0)) rs (bits_of x.0)) (λ all. Some (all, x.1)) (items, rest) last (λ all read joins.
    let items_is : all ≡ items = ap (λ y. y.0) (same_Some _ _ joins) in
    rw (← items_is) (items_read_fit (length (bits_of x.0)) rs (bits_of x.0) all read))))

around_takes : (front rs back : List Row) (from : List Bool) (h : Holding) → are_exact front ≡ true
    → are_exact rs ≡ true → are_exact back ≡ true → read_around front rs back from ≡ Some h
    → (from ≡ spell_around front rs back h) × (fits (front ++ back) h.head ≡ true) × (all_fit rs h.items ≡ true)
around_takes front rs back from h ef er eb is =
    then_some (read_rows front from) _ h is (λ head was later.
    then_some (read_loop rs head.1) _ h later (λ items had more.
    then_some (read_rows back items.1) _ h more (λ tail read tested.
    let made : Holding = record { head = head.0 ++ tail.0; items = items.0 } in
    let parts = cond_some (nat_eq (length tail.1) 0) made h tested in
    let one = rows_takes front from head.0 head.1 ef was in
    let two = loop_takes rs head.1 items.0 items.1 er had in
    let three = rows_takes back items.1 tail.0 tail.1 eb read in
    let none : tail.1 ≡ [] = empty tail.1 (eqb-true (length tail.1) 0 parts.0) in
    let stays = spell_stays front head.0 tail.0 one.1 in
    let left = drop_stays front head.0 tail.0 one.1 in
    let last : items.1 ≡ spell_rows back tail.0 = three.0 ∙ ap (λ l. spell_rows back tail.0 ++ l) none ∙ append-nil (spell_rows back tail.0) in
    let whole : from ≡ spell_rows front head.0 ++ (spell_loop rs items.0 ++ spell_rows back tail.0) = one.0 ∙ ap (λ l. spell_rows front head.0 ++ l) (two.0 ∙ ap (λ l. spell_loop rs items.0 ++ l) last) in
    rw (← parts.1) (rw (stays, left) whole, fits_join front back head.0 tail.0 one.1 three.1, two.1))))

exact_split : (n : ℕ) (rs : List Row) → are_exact rs ≡ true → (are_exact (take n rs) ≡ true) × (are_exact (drop n rs) ≡ true)
exact_split zero rs exact = (refl, exact)
exact_split (suc n) [] exact = (refl, refl)
exact_split (suc n) (r ∷ rs) exact =
    let parts = both (is_exact r.kind) (are_exact rs) exact in
    let others = exact_split n rs parts.1 in
    (rw (parts.0, others.0) refl, others.1)

-- counted items and the rows around them are written as they were read
pub counted_takes : (n : ℕ) (i : Option (List ℕ × List Row)) (head : List Row) (from : List Bool) (h : Holding)
    → are_exact head ≡ true → items_exact i ≡ true → read_counted n i head from ≡ Some h
    → (from ≡ spell_around (take n head) (item_rows i) (drop n head) h) × (fits head h.head ≡ true) × (items_fit i h.items ≡ true)
counted_takes n None head from h exact exacts is = cc
counted_takes n (Some i) head from h exact exacts is =
    let parts = exact_split n head exact in
    let took = around_takes (take n head) i.1 (drop n head) from h parts.0 exacts parts.1 is in
    (took.0, ap (λ l. fits l h.head) (sym (take-append-drop n head)) ∙ took.1, took.2)

around_fits : (front rs back : List Row) (from : List Bool) (h : Holding) → read_around front rs back from ≡ Some h
    → (fits (front ++ back) h.head ≡ true) × (all_fit rs h.items ≡ true)
around_fits front rs back from h is =
    then_some (read_rows front from) _ h is (λ head was later.
    then_some (read_loop rs head.1) _ h later (λ items had more.
    then_some (read_rows back items.1) _ h more (λ tail read tested.
    let made : Holding = record { head = head.0 ++ tail.0; items = items.0 } in
    let parts = cond_some (nat_eq (length tail.1) 0) made h tested in
    let one = rows_length front from head.0 head.1 was in
    let three = rows_length back items.1 tail.0 tail.1 read in
    rw (← parts.1) (fits_join front back head.0 tail.0 one.1 three.1, loop_fits rs head.1 items.0 items.1 had))))

pub counted_fits : (n : ℕ) (i : Option (List ℕ × List Row)) (head : List Row) (from : List Bool) (h : Holding)
    → read_counted n i head from ≡ Some h → (fits head h.head ≡ true) × (items_fit i h.items ≡ true)
counted_fits n None head from h is = cc
counted_fits n (Some i) head from h is =
    let took = around_fits (take n head) i.1 (drop n head) from h is in
    (ap (λ l. fits l h.head) (sym (take-append-drop n head)) ∙ took.0, took.1)

pub map_drop : {A B : Type 0} (f : A → B) (n : ℕ) (xs : List A) → map f (drop n xs) ≡ drop n (map f xs)
map_drop f zero xs = refl
map_drop f (suc n) [] = refl
map_drop f (suc n) (x ∷ xs) = map_drop f n xs

pub held_by_more : (fields : List Field) (i count : ℕ) (d : Field) → i < length fields
    → count ≡ held_by (rows_of (take i fields))
    → count + holds (get_or fields i d).kind ≡ held_by (rows_of (take (i + 1) fields))
held_by_more [] i count d inside is = absurd (omega arith)
held_by_more (f ∷ fs) zero count d inside is = omega (arith, is)
held_by_more (f ∷ fs) (suc i) count d inside is =
    let up : suc i + 1 ≡ suc (i + 1) = omega arith in
    let more = held_by_more fs i (held_by (rows_of (take i fs))) d (omega arith) refl in
    let all : held_by (rows_of (take (suc i + 1) (f ∷ fs))) ≡ holds f.kind + held_by (rows_of (take (i + 1) fs)) = ap (λ n. held_by (rows_of (take n (f ∷ fs)))) up in
    let so_far : count ≡ holds f.kind + held_by (rows_of (take i fs)) = is in
    omega (arith, so_far, more, all)

-- what was read as so many bytes is so many bytes
pub few_bytes : (from rest : List Bool) (count : ℕ) (mid : List Bool) (b : List ℕ)
    → read_number 8 from ≡ Some (count, mid) → read_bytes count mid ≡ Some (b, rest) → length b ≤ 4096
few_bytes from rest count mid b one two =
    let small = number_takes 8 from count mid one in
    let took = bytes_takes count mid b rest two in
    omega (arith, small.1, took.1)

-- counted items after what was written
pub loop_written : (rs : List Row) (items : List (List Held)) (out new : List Bool) (b : List ℕ)
    → bits_of b ≡ flat_map (spell_rows rs) items → new ≡ out ++ (bits 8 (length b) ++ bits_of b)
    → new ≡ out ++ spell_loop rs items
loop_written rs items out new b is then =
    let long : length (flat_map (spell_rows rs) items) / 8 ≡ length b = omega (arith, ap length is, length-bits_of b) in
    then ∙ ap (λ l. out ++ (bits 8 (length b) ++ l)) is
    ∙ ap (λ n. out ++ (bits 8 n ++ flat_map (spell_rows rs) items)) (sym long)

-- rows, counted items and rows after what was written
pub around_written : (front rs back : List Row) (b : Body) (out one two three : List Bool) (heads : List FieldValue)
    (items : List Item) (rest : List FieldValue) (count : ℕ) (fronts inner backs : List Row)
    → heads ≡ b.head.items → items ≡ b.items.items → rest ≡ drop count heads → count ≡ held_by front
    → fronts ≡ front → inner ≡ rs → backs ≡ back
    → one ≡ out ++ spell_rows fronts (map held heads) → two ≡ one ++ spell_loop inner (map item_held items)
    → three ≡ two ++ spell_rows backs (map held rest)
    → three ≡ out ++ spell_around front rs back (body_held b)
around_written front rs back b out one two three heads items rest count fronts inner backs heads_are items_are rest_is count_is front_is inner_is back_is first second third =
    let values : map held rest ≡ drop (held_by front) (map held b.head.items) = ap (map held) rest_is ∙ map_drop held count heads ∙ rw (count_is, heads_are) refl in
    third ∙ rw (second, first, front_is, inner_is, back_is, values, heads_are, items_are) (
    append_assoc (out ++ spell_rows front (map held b.head.items)) (spell_loop rs (map item_held b.items.items)) (spell_rows back (drop (held_by front) (map held b.head.items)))
    ∙ append_assoc out (spell_rows front (map held b.head.items)) (spell_loop rs (map item_held b.items.items) ++ spell_rows back (drop (held_by front) (map held b.head.items))))

pub sound_back : (c : Option ℕ) (n : ℕ) (p : Page) → c ≡ Some n → IsTrue (place_sound c p)
    → IsTrue (are_sound (drop n p.head))
sound_back None n p is sound = cc
sound_back (Some m) n p is sound =
    let same : m ≡ n = same_Some _ _ is in
    let after : IsTrue (rows_sound (drop m p.head) && (not (is_open (take m p.head)) && not (is_none p.items))) = right_true (rows_sound (take m p.head)) (rows_sound (drop m p.head) && (not (is_open (take m p.head)) && not (is_none p.items))) sound in
    let back : IsTrue (rows_sound (drop m p.head)) = left_true (rows_sound (drop m p.head)) (not (is_open (take m p.head)) && not (is_none p.items)) after in
    subst (λ k. IsTrue (are_sound (drop k p.head))) same (left_true _ _ (left_true _ _ back))
