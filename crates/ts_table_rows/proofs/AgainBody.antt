-- Bodies of sections that are written are read again.
use Rattle.std.proofs.Common.{◌≡◌, ℕ, ◌%◌, ◌<◌, ◌≤◌, Bool, true, false, List, [], ◌∷◌, ◌++◌, length, refl, sym, ap, ◌∙◌, arith, append-nil, length-append}
use Rattle.std.specs.Prelude.{IsTrue, Option, Some, None, Result, Ok, All, if◌then◌else◌}
use Rattle.std.specs.List.{flat_map, list_all}
use Rattle.std.proofs.lemmas.Bool.{and_parts}
use Rattle.std.proofs.lemmas.List.{take-append-drop}
use Rattle.ts_bits.specs.TaggedBody.{TaggedBody, IsDescriptor, loop_bytes}
use Rattle.ts_fields.specs.Bits.{bits, bits_of}
use Rattle.ts_fields.specs.Layout.{Held}
use Rattle.ts_fields.specs.Fitting.{fits, are_bytes}
use Rattle.ts_fields.specs.Reading.{read_number}
use Rattle.ts_fields.specs.Spelling.{spell_rows}
use Rattle.ts_table_rows.specs.declared.layout.LoopForm.{LoopForm}
use Rattle.ts_table_rows.specs.declared.layout.LoopForm.TheVariants.{Absent, Counted, ToEnd}
use Rattle.ts_table_rows.specs.declared.fault.TableRule.TheVariants.{Short}
use Rattle.ts_table_rows.specs.TablePages.{ItemPage, TablePage, closed_rows, item_sound, items_sound, ends_once, page_sound}
use Rattle.ts_table_rows.specs.TableValues.{ItemHolding, BodyHolding}
use Rattle.ts_table_rows.specs.TableFitting.{item_fits, items_fit, own_fit, values_fit, zeros_from}
use Rattle.ts_table_rows.specs.TableSections.{length_with}
use Rattle.ts_table_rows.specs.BodySpelling.{item_row, spell_counted, spell_item, spell_own, spell_after, spell_parts, body_row, held_count, common_values, head_values}
use Rattle.ts_table_rows.specs.BodyReading.{Fault, Seen, read_counted, read_loop, read_last_loop, read_items, read_counted_items, read_after, is_same, first_number, read_heading, read_body}
use Rattle.ts_table_rows.proofs.SizeLemmas.{SoundPage, parts_of_sound, item_whole, parts_whole, counted_length}
use Rattle.ts_table_rows.proofs.BodyLemmas.{length-bytes_of}
use Rattle.ts_table_rows.proofs.AgainBits.{ReadAgain, bytes-again, bytes-append, bits_of-append, fields-again}
use Rattle.ts_table_rows.proofs.AgainLoops.{ItemsServe, counted-again, loop-again, last-again, none-is, items-again, zeros-end}

pub so_true : (b : Bool) → b ≡ true → IsTrue b
so_true true is = refl
so_true false is = cc

-- ---- the descriptors of the table itself

own-again : ReadAgain → (form : LoopForm) (items : Option ItemPage) (ds : List TaggedBody) (row : List ℕ) → ends_once form items ≡ true → own_fit form ds ≡ true → All (λ d. IsDescriptor d) ds → length (spell_own form (loop_bytes ds)) < 32768
    → read_loop form (spell_own form (loop_bytes ds) ++ spell_after items row) ≡ Ok (ds, spell_after items row)
unfolding read_loop
own-again laws Absent items ds row once fit all few = ap (λ l. Ok (l, spell_after items row)) (sym (none-is ds fit))
own-again laws Counted items ds row once fit all few =
    loop-again laws Short (length (spell_counted (loop_bytes ds) ++ spell_after items row)) 0 ds (spell_after items row) all few
own-again laws ToEnd None ds row once fit all few = ap read_last_loop (append-nil (bits_of (loop_bytes ds))) ∙ last-again laws ds all
own-again laws ToEnd (Some i) ds row once fit all few = cc

-- ---- the items

-- the bytes of items have the items' bits
items-bits : ReadAgain → (i : ItemPage) (xs : List ItemHolding) → item_sound i ≡ true → list_all (item_fits i) xs ≡ true
    → (bits_of (flat_map (item_row (Some i)) xs) ≡ flat_map (spell_item i) xs) × (are_bytes (flat_map (item_row (Some i)) xs) ≡ true)
items-bits laws i [] sound fit = (refl, refl)
items-bits laws i (x ∷ xs) sound fit =
    let parts = and_parts (item_fits i x) (list_all (item_fits i) xs) fit in
    let here = bytes-again laws (spell_item i x) (item_whole laws.sizes i x (so_true (item_sound i) sound) parts.0) in
    let others = items-bits laws i xs sound parts.1 in (
      bits_of-append (item_row (Some i) x) (flat_map (item_row (Some i)) xs) ∙ ap (λ l. l ++ bits_of (flat_map (item_row (Some i)) xs)) here.0 ∙ ap (λ l. spell_item i x ++ l) others.0,
      bytes-append (item_row (Some i) x) (flat_map (item_row (Some i)) xs) here.1 others.1,
    )

plain-items : ReadAgain → (one_zero : Bool) (i : ItemPage) (seen now : Bool) (xs : List ItemHolding) → item_sound i ≡ true → ItemsServe i xs → length (bits_of (flat_map (item_row (Some i)) xs)) < 32768 → zeros_from one_zero seen xs ≡ Some now
    → read_items (length (bits_of (flat_map (item_row (Some i)) xs))) one_zero i seen 0 (bits_of (flat_map (item_row (Some i)) xs)) ≡ Ok (xs, now)
plain-items laws one_zero i seen now xs sound serve few zeros =
    let same = (items-bits laws i xs sound serve.fit).0 in
    let less : length (flat_map (spell_item i) xs) < 32768 = omega (arith, ap length same) in
    let least : length (flat_map (spell_item i) xs) ≤ length (flat_map (spell_item i) xs) = omega arith in
    ap (λ l. read_items (length l) one_zero i seen 0 l) same ∙ items-again laws (length (flat_map (spell_item i) xs)) one_zero i seen now 0 xs sound serve less least zeros

counted-items : ReadAgain → (one_zero : Bool) (i : ItemPage) (seen now : Bool) (xs : List ItemHolding) → item_sound i ≡ true → ItemsServe i xs → length (spell_counted (flat_map (item_row (Some i)) xs)) < 32768 → zeros_from one_zero seen xs ≡ Some now
    → read_counted_items one_zero i seen (bits 4 15 ++ spell_counted (flat_map (item_row (Some i)) xs)) ≡ Ok (xs, now)
unfolding read_counted_items
counted-items laws one_zero i seen now xs sound serve few zeros =
    let row : List ℕ = flat_map (item_row (Some i)) xs in
    let size = counted_length laws.sizes row in
    let less : length (bits_of row) < 32768 = omega (arith, laws.sizes.long row) in
    let small : length row < 4096 = omega arith in
    let reserved : read_number 4 (bits 4 15 ++ spell_counted row) ≡ Some (15, spell_counted row) = laws.number 4 15 (spell_counted row) in
    let counted : read_counted Short (length (spell_counted row)) 0 (spell_counted row) ≡ Ok (row, []) =
    ap (read_counted Short (length (spell_counted row)) 0) (sym (append-nil (spell_counted row))) ∙ counted-again laws Short (length (spell_counted row)) 0 row [] (items-bits laws i xs sound serve.fit).1 small in
    rw (reserved, counted, plain-items laws one_zero i seen now xs sound serve less zeros) refl

-- counted or not
by_counted : {Y : Type 0} (counted : Bool) (a b : List Bool) (one two : List Bool → Result Y Fault) (y : Y) → (length a < 32768 → one a ≡ Ok y) → (length b < 32768 → two b ≡ Ok y) → length (if counted then a else b) < 32768
    → (if counted then one (if counted then a else b) else two (if counted then a else b)) ≡ Ok y
by_counted true a b one two y first second few = first few
by_counted false a b one two y first second few = second few

behind-again : ReadAgain → (one_zero : Bool) (items : Option ItemPage) (seen now : Bool) (xs : List ItemHolding) → items_sound items ≡ true → items_fit items xs ≡ true → All (λ x. All (λ d. IsDescriptor d) x.descriptors) xs → length (spell_after items (flat_map (item_row items) xs)) < 32768
    → zeros_from one_zero seen xs ≡ Some now → read_after one_zero items seen (spell_after items (flat_map (item_row items) xs)) ≡ Ok (xs, now)
unfolding read_after
behind-again laws one_zero None seen now [] sound fit all few zeros = ap (λ s. Ok ([], s)) (zeros-end one_zero seen now zeros)
behind-again laws one_zero None seen now (x ∷ xs) sound fit all few zeros = cc
behind-again laws one_zero (Some i) seen now xs sound fit all few zeros =
    let row : List ℕ = flat_map (item_row (Some i)) xs in
    let serve : ItemsServe i xs = record { fit = fit; some = all } in
    by_counted i.counted (bits 4 15 ++ spell_counted row) (bits_of row) (read_counted_items one_zero i seen) (λ from. read_items (length from) one_zero i seen 0 from) (xs, now)
    (λ less. counted-items laws one_zero i seen now xs sound serve (omega (arith, length-append (bits 4 15) (spell_counted row))) zeros)
    (λ less. plain-items laws one_zero i seen now xs sound serve less zeros) few

-- ---- the fields outside the items

heading-again : ReadAgain → (p : TablePage) (first : Option ℕ) (values : List Held) (rest : List Bool) → closed_rows p.common ≡ true → closed_rows p.head ≡ true → values_fit p values ≡ true → is_same first (first_number (common_values p values)) ≡ true
    → read_heading p first (spell_rows p.common (common_values p values) ++ (spell_rows p.head (head_values p values) ++ rest)) ≡ Ok (values, first_number (common_values p values), rest)
unfolding read_heading
heading-again laws p first values rest common head fit same =
    let parts = and_parts (fits p.common (common_values p values)) (fits p.head (head_values p values)) fit in
    let more : List Bool = spell_rows p.head (head_values p values) ++ rest in
    rw (fields-again laws Short 0 p.common (common_values p values) more common parts.0, same, fields-again laws Short 0 p.head (head_values p values) rest head parts.1)
    (ap (λ l. Ok (l, first_number (common_values p values), rest)) (take-append-drop (held_count p.common) values))

-- ---- a body

-- what the body of a section of a table with these values must meet
pub record Serves (p : TablePage) (values : List Held) (c : BodyHolding) : Type 0 where
  pub same : c.values ≡ values
  pub own : own_fit p.loop_form c.descriptors ≡ true
  pub items : items_fit p.items c.items ≡ true
  pub owned : All (λ d. IsDescriptor d) c.descriptors
  pub described : All (λ x. All (λ d. IsDescriptor d) x.descriptors) c.items
  pub room : length_with p c ≤ p.most

-- what has been seen after a section of a table with these values
abbrev pub seen_after : TablePage → List Held → Bool → Seen
seen_after p values zero = record { first = first_number (common_values p values); zero = zero }

parts-again : ReadAgain → (p : TablePage) (seen : Seen) (now : Bool) (c : BodyHolding) → SoundPage p → values_fit p c.values ≡ true → Serves p c.values c → is_same seen.first (first_number (common_values p c.values)) ≡ true → zeros_from p.one_zero seen.zero c.items ≡ Some now
    → length (spell_parts p c.values (loop_bytes c.descriptors) (flat_map (item_row p.items) c.items)) < 32768
    → read_body p seen (spell_parts p c.values (loop_bytes c.descriptors) (flat_map (item_row p.items) c.items)) ≡ Ok (c, seen_after p c.values now)
unfolding read_body spell_parts
parts-again laws p seen now c sound fit serve same zeros few =
    let row : List ℕ = flat_map (item_row p.items) c.items in
    let own : List Bool = spell_own p.loop_form (loop_bytes c.descriptors) in
    let behind : List Bool = spell_after p.items row in
    let common : List Bool = spell_rows p.common (common_values p c.values) in
    let head : List Bool = spell_rows p.head (head_values p c.values) in
    let one = length-append common (head ++ (own ++ behind)) in
    let two = length-append head (own ++ behind) in
    let three = length-append own behind in
    let few_own : length own < 32768 = omega arith in
    let few_after : length behind < 32768 = omega arith in
    rw (
      heading-again laws p seen.first c.values (own ++ behind) sound.common sound.head fit same,
      own-again laws p.loop_form p.items c.descriptors row sound.once serve.own serve.owned few_own,
      behind-again laws p.one_zero p.items seen.zero now c.items sound.items serve.items serve.described few_after zeros,
    ) refl

-- a body is written as bytes
pub body-bytes : ReadAgain → (p : TablePage) (c : BodyHolding) → IsTrue (page_sound p) → values_fit p c.values ≡ true → are_bytes (body_row p c) ≡ true
body-bytes laws p c sound fit =
    let row : List ℕ = flat_map (item_row p.items) c.items in
    (bytes-again laws (spell_parts p c.values (loop_bytes c.descriptors) row) (parts_whole laws.sizes p c.values (loop_bytes c.descriptors) row sound fit)).1

-- and is read again
pub body-again : ReadAgain → (p : TablePage) (seen : Seen) (now : Bool) (c : BodyHolding) → IsTrue (page_sound p) → values_fit p c.values ≡ true → Serves p c.values c → is_same seen.first (first_number (common_values p c.values)) ≡ true → zeros_from p.one_zero seen.zero c.items ≡ Some now
    → read_body p seen (bits_of (body_row p c)) ≡ Ok (c, seen_after p c.values now)
body-again laws p seen now c sound fit serve same zeros =
    let spelled : List Bool = spell_parts p c.values (loop_bytes c.descriptors) (flat_map (item_row p.items) c.items) in
    let parts = parts_of_sound p sound in
    let whole : length spelled % 8 ≡ 0 = parts_whole laws.sizes p c.values (loop_bytes c.descriptors) (flat_map (item_row p.items) c.items) sound fit in
    let few : length spelled < 32768 = omega (arith, length-bytes_of spelled, serve.room, parts.most) in
    ap (read_body p seen) (bytes-again laws spelled whole).0 ∙ parts-again laws p seen now c parts fit serve same zeros few
