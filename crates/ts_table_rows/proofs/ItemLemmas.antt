-- Items of a body one after another.
use Rattle.std.proofs.Common.{◌≡◌, ℕ, zero, suc, ◌+◌, ◌-◌, ◌*◌, ◌^◌, ◌%◌, ◌<◌, ◌≤◌, Bool, true, false, List, [], ◌∷◌, ◌++◌, length, drop, refl, sym, ap, ◌∙◌, inl, inr, arith, append_assoc, append-nil, get_or, length-append}
use Rattle.std.specs.Prelude.{Some, Result, Ok, Err, IsTrue, ◌&&◌, nat_le, nat_lt, nat_eq, if◌then◌else◌}
use Rattle.std.proofs.lemmas.Bool.{le-leb, lt-leb, ltb-true, cond_both, cases_lt}
use Rattle.std.proofs.lemmas.List.{drop_all, drop_more}
use Rattle.ts_bits.specs.TaggedBody.{TaggedBody}
use Rattle.ts_bits.specs.DescriptorLoop.{descriptors_of}
use Rattle.ts_fields.specs.Bits.{bits, bits_of}
use Rattle.ts_fields.specs.declared.field.Field.{Field}
use Rattle.ts_fields.specs.Layout.{Row, Held, rows_of}
use Rattle.ts_fields.specs.Fitting.{fits, shaped, are_bytes}
use Rattle.ts_fields.specs.Reading.{read_number, read_bytes, read_rows}
use Rattle.ts_fields.specs.Spelling.{spell_rows}
use Rattle.ts_fields.specs.SoundRows.{width, widths}
use Rattle.ts_table_rows.specs.TablePages.{ItemPage, fixed_part, item_sound, closed_rows}
use Rattle.ts_table_rows.specs.TableValues.{ItemHolding}
use Rattle.ts_table_rows.specs.BodyReading.{Fault, Stops, or_broken, or_cut, read_fields, read_counted, read_counted_loop, read_described, read_item, read_next, count_zero, read_items, ◌>>=◌}
use Rattle.ts_table_rows.specs.declared.fault.TableRule.{TableRule}
use Rattle.ts_table_rows.specs.declared.fault.TableRule.TheVariants.{Loop, Time}
use Rattle.ts_table_rows.specs.declared.fault.BodyStop.{BodyStop}
use Rattle.ts_table_rows.specs.declared.fault.BodyStop.TheVariants.{At, NoMemory}
use Rattle.ts_table_rows.proofs.ReadLemmas.{then_ok, ok_some, same_ok, fields_are_rows}

-- ---- room for a fixed part

widths_left : (rows : List Field) (i : ℕ) (d : Field) → i < length rows → widths (rows_of (drop i rows)) ≡ width (get_or rows i d).kind + widths (rows_of (drop (i + 1) rows))
widths_left rows i d inside = ap (λ fs. widths (rows_of fs)) (drop_more rows i d inside)

pub width_gone : (rows : List Field) (i : ℕ) (d : Field) (w more free : ℕ) (whole : Bool) → i < length rows → w ≡ width (get_or rows i d).kind → free < w → nat_le (widths (rows_of (drop i rows)) + more) free ≡ whole → false ≡ whole
width_gone rows i d w more free whole inside is small so_far =
    let left = widths_left rows i d inside in
    sym (lt-leb (widths (rows_of (drop i rows)) + more) free (omega (arith, left))) ∙ so_far

same_test : (a b c e : ℕ) → (a ≤ b → c ≤ e) → (c ≤ e → a ≤ b) → nat_le a b ≡ nat_le c e
same_test a b c e there back = elim (cases_lt b a) [
  | inl less ↦ lt-leb a b less ∙ sym (elim (cases_lt e c) [ inl below ↦ lt-leb c e below | inr above ↦ absurd (let h = back above in omega arith) ])
  | inr more ↦ le-leb a b more ∙ sym (le-leb c e (there more))
]

pub width_taken : (rows : List Field) (i : ℕ) (d : Field) (w more free : ℕ) (whole : Bool) → i < length rows → w ≡ width (get_or rows i d).kind → w ≤ free → nat_le (widths (rows_of (drop i rows)) + more) free ≡ whole
    → nat_le (widths (rows_of (drop (i + 1) rows)) + more) (free - w) ≡ whole
width_taken rows i d w more free whole inside is small so_far =
    let left = widths_left rows i d inside in
    same_test (widths (rows_of (drop (i + 1) rows)) + more) (free - w) (widths (rows_of (drop i rows)) + more) free (λ h. omega (arith, left)) (λ h. omega (arith, left)) ∙ so_far

pub widths_done : (rows : List Field) (i more free : ℕ) (whole : Bool) → length rows ≤ i → nat_le (widths (rows_of (drop i rows)) + more) free ≡ whole → nat_le more free ≡ whole
widths_done rows i more free whole all so_far =
    let none : widths (rows_of (drop i rows)) ≡ 0 = ap (λ fs. widths (rows_of fs)) (drop_all i rows all) in
    same_test more free (widths (rows_of (drop i rows)) + more) free (λ h. omega (arith, none)) (λ h. omega (arith, none)) ∙ so_far

-- ---- an item takes bits

-- what the layer below ensures of fields, numbers and bytes
pub record TakenBits : Type 0 where
  pub rows : (rs : List Row) (from : List Bool) (values : List Held) (rest : List Bool) → read_rows rs from ≡ Some (values, rest) → (length from ≡ length (spell_rows rs values) + length rest) × (fits rs values ≡ true)
  pub shape : (rs : List Row) (values : List Held) → fits rs values ≡ true → shaped rs values ≡ true
  pub spelled : (rs : List Row) (values : List Held) → shaped rs values ≡ true → (more : ℕ) × (length (spell_rows rs values) ≡ widths rs + 8 * more)
  pub number : (count value : ℕ) (from rest : List Bool) → read_number count from ≡ Some (value, rest) → (from ≡ bits count value ++ rest) × (value < 2 ^ count)
  pub row : (count : ℕ) (row : List ℕ) (from rest : List Bool) → read_bytes count from ≡ Some (row, rest) → (from ≡ bits_of row ++ rest) × (length row ≡ count) × (are_bytes row ≡ true)
  pub wide : (count value : ℕ) → length (bits count value) ≡ count
  pub long : (row : List ℕ) → length (bits_of row) ≡ 8 * length row

pub counted_takes : TakenBits → (rule : TableRule) (left behind : ℕ) (from : List Bool) (x : List ℕ × List Bool) → read_counted rule left behind from ≡ Ok x → 12 + (8 * length x.0 + length x.1) ≡ length from
unfolding read_counted
counted_takes laws rule left behind from x is =
    then_ok (or_broken (read_number 12 from) rule left) _ x is (λ size had later.
    let one = laws.number 12 size.0 from size.1 (ok_some _ _ _ _ had) in
    let two = laws.row size.0 x.0 size.1 x.1 (ok_some _ _ _ _ later) in
    omega (arith, ap length one.0, length-append (bits 12 size.0) size.1, laws.wide 12 size.0, ap length two.0, length-append (bits_of x.0) x.1, laws.long x.0))

loop_takes : TakenBits → (rule : TableRule) (left behind : ℕ) (from : List Bool) (x : List TaggedBody × List Bool) → read_counted_loop rule left behind from ≡ Ok x → 12 + length x.1 ≤ length from
unfolding read_counted_loop
loop_takes laws rule left behind from x is =
    then_ok (read_counted rule left behind from) _ x is (λ row had later.
    then_ok (or_cut (descriptors_of row.0) (8 * length row.0 + length row.1 + behind)) _ x later (λ ds cut joins.
    omega (arith, counted_takes laws rule left behind from row had, ap (λ y. length y.1) (same_ok _ _ joins))))

described_takes : TakenBits → (described : Bool) (left behind : ℕ) (from : List Bool) (x : List TaggedBody × List Bool) → read_described described left behind from ≡ Ok x → (if described then 12 else 0) + length x.1 ≤ length from
unfolding read_described
described_takes laws true left behind from x is = loop_takes laws Loop left behind from x is
described_takes laws false left behind from x is = omega (arith, ap (λ y. length y.1) (same_ok _ _ is))

and_parts : (a b : Bool) → IsTrue (a && b) → IsTrue a × IsTrue b
and_parts true b h = (refl, h)
and_parts false b h = cc

item_takes : TakenBits → (i : ItemPage) (behind : ℕ) (from : List Bool) (item : ItemHolding) (rest : List Bool) → read_item i behind from ≡ Ok (item, rest) → fixed_part i + length rest ≤ length from
unfolding read_item
item_takes laws i behind from item rest =
    cond_both (nat_le (fixed_part i) (length from)) _ _ (λ r. r ≡ Ok (item, rest) → fixed_part i + length rest ≤ length from)
    (λ enough is.
    then_ok (read_fields Time behind i.rows from) _ (item, rest) is (λ x was later.
    then_ok (read_described i.described (length from + behind) behind x.1) _ (item, rest) later (λ ds had joins.
    let one = laws.rows i.rows from x.0 x.1 (fields_are_rows Time behind i.rows from x was) in
    let size = laws.spelled i.rows x.0 (laws.shape i.rows x.0 one.1) in
    let two = described_takes laws i.described (length from + behind) behind x.1 ds had in
    omega (arith, one.0, size.1, two, ap (λ y. length y.1) (same_ok _ _ joins)))))
    (λ few is. cc)

is_true : (b : Bool) → IsTrue b → b ≡ true
is_true true h = refl
is_true false h = cc

pub next_takes : TakenBits → (one_zero : Bool) (i : ItemPage) (seen : Bool) (behind : ℕ) (from : List Bool) (item : ItemHolding) (now : Bool) (rest : List Bool) → IsTrue (item_sound i) → read_next one_zero i seen behind from ≡ Ok (item, now, rest) → length rest < length from
unfolding read_next
next_takes laws one_zero i seen behind from item now rest sound is =
    then_ok (read_item i behind from) _ (item, now, rest) is (λ x was later.
    then_ok (count_zero one_zero seen x.0.values (length from + behind)) _ (item, now, rest) later (λ zero had joins.
    let some : 0 < fixed_part i = ltb-true 0 (fixed_part i) (is_true _ (and_parts (nat_lt 0 (fixed_part i)) (nat_eq (fixed_part i % 8) 0) (and_parts (closed_rows i.rows) _ sound).1).0) in
    omega (arith, some, item_takes laws i behind from x.0 x.1 was, ap (λ y. length y.2) (same_ok _ _ joins))))

-- ---- items one after another

-- each item takes bits
abbrev pub TakesBits : Bool → ItemPage → ℕ → Type 0
TakesBits one_zero i behind = (seen : Bool) (from : List Bool) (item : ItemHolding) (now : Bool) (rest : List Bool) → read_next one_zero i seen behind from ≡ Ok (item, now, rest) → length rest < length from

-- items before those that are read after them
abbrev pub with_items : List ItemHolding → Result (List ItemHolding × Bool) Fault → Result (List ItemHolding × Bool) Fault
with_items front read = read >>= λ more. Ok (front ++ more.0, more.1)

same_next : {A B : Type 0} (r : Result A Fault) (f g : A → Result B Fault) → ((x : A) → r ≡ Ok x → f x ≡ g x) → (r >>= f) ≡ (r >>= g)
same_next (Ok x) f g same = same x refl
same_next (Err fault) f g same = refl

same_turns : (m n : ℕ) (one_zero : Bool) (i : ItemPage) (seen : Bool) (behind : ℕ) (from : List Bool) → TakesBits one_zero i behind → length from ≤ m → length from ≤ n → read_items m one_zero i seen behind from ≡ read_items n one_zero i seen behind from
unfolding read_items
same_turns m n one_zero i seen behind [] takes long wide = refl
same_turns zero n one_zero i seen behind (b ∷ bs) takes long wide = absurd (omega arith)
same_turns (suc m) zero one_zero i seen behind (b ∷ bs) takes long wide = absurd (omega arith)
same_turns (suc m) (suc n) one_zero i seen behind (b ∷ bs) takes long wide =
    same_next (read_next one_zero i seen behind (b ∷ bs)) _ _ (λ x was.
    let fewer : length x.2 < length (b ∷ bs) = takes seen (b ∷ bs) x.0 x.1 x.2 was in
    ap (λ items. items >>= λ more. Ok (x.0 ∷ more.0, more.1)) (same_turns m n one_zero i x.1 behind x.2 takes (omega arith) (omega arith)))

items_more : (front : List ItemHolding) (item : ItemHolding) (read : Result (List ItemHolding × Bool) Fault) → with_items front (read >>= λ more. Ok (item ∷ more.0, more.1)) ≡ with_items (front ++ item ∷ []) read
items_more front item (Ok more) = ap (λ l. Ok (l, more.1)) (sym (append_assoc front (item ∷ []) more.0))
items_more front item (Err fault) = refl

pub items_go_on : (one_zero : Bool) (front : List ItemHolding) (i : ItemPage) (seen : Bool) (behind : ℕ) (from : List Bool) (item : ItemHolding) (now : Bool) (after : List Bool) (whole : Result (List ItemHolding × Bool) Fault) → TakesBits one_zero i behind
    → read_next one_zero i seen behind from ≡ Ok (item, now, after) → with_items front (read_items (length from) one_zero i seen behind from) ≡ whole
    → with_items (front ++ item ∷ []) (read_items (length after) one_zero i now behind after) ≡ whole
unfolding read_items
items_go_on one_zero front i seen behind [] item now after whole takes is so_far = let fewer = takes seen [] item now after is in absurd (omega arith)
items_go_on one_zero front i seen behind (b ∷ bs) item now after whole takes is so_far =
    let fewer : length after < length (b ∷ bs) = takes seen (b ∷ bs) item now after is in
    let e = rw is at so_far in
    ap (with_items (front ++ item ∷ [])) (same_turns (length after) (length bs) one_zero i now behind after takes (omega arith) (omega arith))
    ∙ sym (items_more front item (read_items (length bs) one_zero i now behind after)) ∙ e

pub items_stop : (stop : BodyStop) (one_zero : Bool) (front : List ItemHolding) (i : ItemPage) (seen : Bool) (behind : ℕ) (from : List Bool) (whole : Result (List ItemHolding × Bool) Fault) → (length from ≡ 0 → ⊥)
    → with_items front (read_items (length from) one_zero i seen behind from) ≡ whole → Stops stop (read_next one_zero i seen behind from) → Stops stop whole
unfolding read_items
items_stop NoMemory one_zero front i seen behind from whole some so_far is = tt
items_stop (At rule left) one_zero front i seen behind [] whole some so_far is = absurd (some refl)
items_stop (At rule left) one_zero front i seen behind (b ∷ bs) whole some so_far is = sym so_far ∙ rw is refl

pub items_done : (one_zero : Bool) (front : List ItemHolding) (i : ItemPage) (seen : Bool) (behind : ℕ) (from : List Bool) (whole : Result (List ItemHolding × Bool) Fault) → length from ≡ 0 → with_items front (read_items (length from) one_zero i seen behind from) ≡ whole → whole ≡ Ok (front, seen)
unfolding read_items
items_done one_zero front i seen behind [] whole none so_far = sym so_far ∙ ap (λ l. Ok (l, seen)) (append-nil front)
items_done one_zero front i seen behind (b ∷ bs) whole none so_far = absurd (omega arith)
