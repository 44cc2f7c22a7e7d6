-- The number of bits of items and bodies.
use Rattle.std.proofs.Common.{◌≡◌, ℕ, suc, ◌+◌, ◌*◌, ◌/◌, ◌%◌, ◌<◌, ◌≤◌, Bool, true, false, List, [], ◌∷◌, ◌++◌, length, get_or, refl, sym, ap, ◌∙◌, arith, append-nil, length-append}
use Rattle.std.specs.Prelude.{IsTrue, ◌&&◌, ◌||◌, nat_eq, nat_le, nat_lt, not, if◌then◌else◌, Option, Some, None}
use Rattle.std.proofs.lemmas.Bool.{eqb-true, leb-true, lt-ltb, and_parts}
use Rattle.ts_bits.specs.TaggedBody.{TaggedBody, loop_bytes}
use Rattle.ts_fields.specs.Bits.{bits, bits_of}
use Rattle.ts_fields.specs.Layout.{Row, Held}
use Rattle.ts_fields.specs.Fitting.{fits, shaped, are_bytes}
use Rattle.ts_fields.specs.Reading.{read_bytes}
use Rattle.ts_fields.specs.Spelling.{spell_rows}
use Rattle.ts_fields.specs.SoundRows.{widths}
use Rattle.ts_table_rows.specs.declared.layout.LoopForm.{LoopForm}
use Rattle.ts_table_rows.specs.declared.layout.LoopForm.TheVariants.{Absent, Counted, ToEnd}
use Rattle.ts_table_rows.specs.TablePages.{ItemPage, TablePage, fixed_part, closed_rows, item_sound, items_sound, ends_once, heading_bits, own_bits, items_bits, page_sound}
use Rattle.ts_table_rows.specs.TableValues.{ItemHolding}
use Rattle.ts_table_rows.specs.BodySpelling.{read_row, bytes_of, spell_counted, spell_described, spell_item, spell_own, spell_after, common_values, head_values, spell_parts}
use Rattle.ts_table_rows.specs.TableFitting.{none_there, item_fits, values_fit}

pub is_true : (b : Bool) → IsTrue b → b ≡ true
is_true true h = refl
is_true false h = cc

-- what the layer below ensures of written fields, numbers and bytes
pub record SpelledBits : Type 0 where
  pub shape : (rs : List Row) (values : List Held) → fits rs values ≡ true → shaped rs values ≡ true
  pub spelled : (rs : List Row) (values : List Held) → shaped rs values ≡ true → (more : ℕ) × (length (spell_rows rs values) ≡ widths rs + 8 * more)
  pub wide : (count value : ℕ) → length (bits count value) ≡ count
  pub long : (row : List ℕ) → length (bits_of row) ≡ 8 * length row

pub rows_length : SpelledBits → (rs : List Row) (values : List Held) → fits rs values ≡ true → (more : ℕ) × (length (spell_rows rs values) ≡ widths rs + 8 * more)
rows_length laws rs values fit = laws.spelled rs values (laws.shape rs values fit)

pub counted_length : SpelledBits → (row : List ℕ) → length (spell_counted row) ≡ 12 + 8 * length row
unfolding spell_counted
counted_length laws row = omega (arith, length-append (bits 12 (length row)) (bits_of row), laws.wide 12 (length row), laws.long row)

pub described_length : SpelledBits → (described : Bool) (ds : List TaggedBody) → length (spell_described described ds) ≡ (if described then 12 + 8 * length (loop_bytes ds) else 0)
described_length laws true ds = counted_length laws (loop_bytes ds)
described_length laws false ds = refl

-- an item
pub item_length : SpelledBits → (i : ItemPage) (x : ItemHolding) → fits i.rows x.values ≡ true → (more : ℕ) × (length (spell_item i x) ≡ fixed_part i + 8 * more)
unfolding spell_item
item_length laws i x fit =
    let rows = rows_length laws i.rows x.values fit in
    let sum = length-append (spell_rows i.rows x.values) (spell_described i.described x.descriptors) in
    by_loop i.described (widths i.rows) (length (spell_rows i.rows x.values)) (length (spell_item i x)) (length (loop_bytes x.descriptors)) rows (sum ∙ ap (λ n. length (spell_rows i.rows x.values) + n) (described_length laws i.described x.descriptors))
  where
    by_loop : (described : Bool) (w n t l : ℕ) → (more : ℕ) × (n ≡ w + 8 * more) → t ≡ n + (if described then 12 + 8 * l else 0) → (more : ℕ) × (t ≡ (w + (if described then 12 else 0)) + 8 * more)
    by_loop true w n t l rows sum = (rows.0 + l, omega (arith, rows.1))
    by_loop false w n t l rows sum = (rows.0, omega (arith, rows.1))

pub item_whole : SpelledBits → (i : ItemPage) (x : ItemHolding) → IsTrue (item_sound i) → item_fits i x ≡ true → length (spell_item i x) % 8 ≡ 0
item_whole laws i x sound fit =
    let one = item_length laws i x (and_parts (fits i.rows x.values) (i.described || none_there x.descriptors) fit).0 in
    let parts = and_parts (closed_rows i.rows) (nat_lt 0 (fixed_part i) && nat_eq (fixed_part i % 8) 0) (is_true _ sound) in
    let whole : fixed_part i % 8 ≡ 0 = eqb-true (fixed_part i % 8) 0 (and_parts (nat_lt 0 (fixed_part i)) (nat_eq (fixed_part i % 8) 0) parts.1).1 in
    omega (arith, one.1)

-- the descriptors of the table itself, and its items, given as bytes
abbrev pub own_taken : LoopForm → List ℕ → ℕ
own_taken Absent row = 0
own_taken Counted row = length row
own_taken ToEnd row = length row

abbrev pub items_taken : Option ItemPage → List ℕ → ℕ
items_taken None row = 0
items_taken (Some i) row = length row

own_length : SpelledBits → (form : LoopForm) (row : List ℕ) → length (spell_own form row) ≡ own_bits form + 8 * own_taken form row
own_length laws Absent row = refl
own_length laws Counted row = counted_length laws row
own_length laws ToEnd row = omega (arith, laws.long row)

counted_items : SpelledBits → (counted : Bool) (row : List ℕ) → length (if counted then bits 4 15 ++ spell_counted row else bits_of row) ≡ (if counted then 16 else 0) + 8 * length row
counted_items laws true row = omega (arith, length-append (bits 4 15) (spell_counted row), laws.wide 4 15, counted_length laws row)
counted_items laws false row = omega (arith, laws.long row)

after_length : SpelledBits → (items : Option ItemPage) (row : List ℕ) → length (spell_after items row) ≡ items_bits items + 8 * items_taken items row
after_length laws None row = refl
after_length laws (Some i) row = counted_items laws i.counted row

-- the parts of a sound page
pub record SoundPage (p : TablePage) : Type 0 where
  pub common : closed_rows p.common ≡ true
  pub head : closed_rows p.head ≡ true
  pub items : items_sound p.items ≡ true
  pub once : ends_once p.loop_form p.items ≡ true
  pub whole : (heading_bits p + (own_bits p.loop_form + items_bits p.items)) % 8 ≡ 0
  pub most : p.most ≤ 4093
  pub keeps : (not p.keeps_numbers || p.single) ≡ true

pub parts_of_sound : (p : TablePage) → IsTrue (page_sound p) → SoundPage p
parts_of_sound p sound =
    let a = and_parts (closed_rows p.common) _ (is_true _ sound) in
    let b = and_parts (closed_rows p.head) _ a.1 in
    let c = and_parts (items_sound p.items) _ b.1 in
    let d = and_parts (ends_once p.loop_form p.items) _ c.1 in
    let e = and_parts (nat_eq ((heading_bits p + (own_bits p.loop_form + items_bits p.items)) % 8) 0) _ d.1 in
    let f = and_parts (nat_le p.most 4093) (not p.keeps_numbers || p.single) e.1 in
    record { common = a.0; head = b.0; items = c.0; once = d.0; whole = eqb-true _ 0 e.0; most = leb-true p.most 4093 f.0; keeps = f.1 }

-- a body by what its parts take
pub parts_length : SpelledBits → (p : TablePage) (values : List Held) (own items : List ℕ)
    → length (spell_parts p values own items) ≡ length (spell_rows p.common (common_values p values)) + length (spell_rows p.head (head_values p values)) + (own_bits p.loop_form + items_bits p.items) + 8 * (own_taken p.loop_form own + items_taken p.items items)
unfolding spell_parts
parts_length laws p values own items =
    let a = length-append (spell_rows p.common (common_values p values)) (spell_rows p.head (head_values p values) ++ (spell_own p.loop_form own ++ spell_after p.items items)) in
    let b = length-append (spell_rows p.head (head_values p values)) (spell_own p.loop_form own ++ spell_after p.items items) in
    let c = length-append (spell_own p.loop_form own) (spell_after p.items items) in
    omega (arith, own_length laws p.loop_form own, after_length laws p.items items)

pub parts_whole : SpelledBits → (p : TablePage) (values : List Held) (own items : List ℕ) → IsTrue (page_sound p) → values_fit p values ≡ true → length (spell_parts p values own items) % 8 ≡ 0
parts_whole laws p values own items sound fit =
    let parts = and_parts (fits p.common (common_values p values)) (fits p.head (head_values p values)) fit in
    let one = rows_length laws p.common (common_values p values) parts.0 in
    let two = rows_length laws p.head (head_values p values) parts.1 in
    omega (arith, parts_length laws p values own items, one.1, two.1, (parts_of_sound p sound).whole)

pub row_from_bits : ((row : List ℕ) (rest : List Bool) → are_bytes row ≡ true → read_bytes (length row) (bits_of row ++ rest) ≡ Some (row, rest)) → ((row : List ℕ) → length (bits_of row) ≡ 8 * length row)
    → (row : List ℕ) (bs : List Bool) → are_bytes row ≡ true → bits_of row ≡ bs → row ≡ bytes_of bs
unfolding bytes_of
row_from_bits again long row bs small same =
    let count : length bs / 8 ≡ length row = omega (arith, ap length same, long row) in
    let read : read_bytes (length row) (bits_of row) ≡ Some (row, []) = ap (read_bytes (length row)) (sym (append-nil (bits_of row))) ∙ again row [] small in
    sym (ap read_row (ap (λ n. read_bytes n bs) count ∙ ap (read_bytes (length row)) (sym same) ∙ read))

-- bytes whose members are below 256
pub bytes_by_index : (row : List ℕ) → ((i : ℕ) → get_or row i 0 < 256) → are_bytes row ≡ true
bytes_by_index [] small = refl
bytes_by_index (b ∷ bs) small = rw (lt-ltb b 256 (small 0)) (bytes_by_index bs (λ i. small (suc i)))
