-- Descriptors and items that are written are read again.
use Rattle.std.proofs.Common.{◌≡◌, ℕ, zero, suc, ◌+◌, ◌%◌, ◌^◌, ◌<◌, ◌≤◌, Bool, true, false, List, [], ◌∷◌, ◌++◌, length, refl, sym, ap, ◌∙◌, arith, append_assoc, length-append}
use Rattle.std.specs.Prelude.{Option, Some, None, Ok, All, ◌&&◌, ◌||◌, nat_eq, nat_lt, nat_le, if◌then◌else◌}
use Rattle.std.specs.List.{flat_map, list_all}
use Rattle.std.proofs.lemmas.Bool.{and_parts, le-leb, ltb-true}
use Rattle.std.proofs.lemmas.List.Elements.{All-head, All-tail}
use Rattle.ts_bits.specs.TaggedBody.{TaggedBody, IsDescriptor, loop_bytes}
use Rattle.ts_fields.specs.Bits.{bits, bits_of}
use Rattle.ts_fields.specs.Fitting.{fits, are_bytes}
use Rattle.ts_fields.specs.Reading.{read_number}
use Rattle.ts_fields.specs.Spelling.{spell_rows}
use Rattle.ts_table_rows.specs.TablePages.{ItemPage, fixed_part, closed_rows, item_sound}
use Rattle.ts_table_rows.specs.TableValues.{ItemHolding}
use Rattle.ts_table_rows.specs.TableFitting.{none_there, item_fits, zeros_from}
use Rattle.ts_table_rows.specs.BodySpelling.{spell_counted, spell_described, spell_item}
use Rattle.ts_table_rows.specs.BodyReading.{broken, read_fields, read_counted, read_counted_loop, read_last_loop, read_described, read_item, read_next, read_items, count_zero, is_zero, first_number}
use Rattle.ts_table_rows.specs.declared.fault.TableRule.{TableRule}
use Rattle.ts_table_rows.specs.declared.fault.TableRule.TheVariants.{Loop, Network, Time}
use Rattle.ts_table_rows.proofs.SizeLemmas.{counted_length, item_length}
use Rattle.ts_table_rows.proofs.AgainBits.{ReadAgain, fields-again, loop-bytes, rest-again}

-- ---- descriptors

-- bytes after their number
pub counted-again : ReadAgain → (rule : TableRule) (left behind : ℕ) (row : List ℕ) (rest : List Bool) → are_bytes row ≡ true → length row < 4096 → read_counted rule left behind (spell_counted row ++ rest) ≡ Ok (row, rest)
unfolding read_counted spell_counted
counted-again laws rule left behind row rest small few =
    let more : List Bool = bits_of row ++ rest in
    let low : length row % 2 ^ 12 ≡ length row = omega arith in
    let size : read_number 12 ((bits 12 (length row) ++ bits_of row) ++ rest) ≡ Some (length row, more) =
    ap (read_number 12) (append_assoc (bits 12 (length row)) (bits_of row) rest) ∙ laws.number 12 (length row) more ∙ ap (λ n. Some (n, more)) low in
    rw (size, laws.row row rest small) refl

pub loop-again : ReadAgain → (rule : TableRule) (left behind : ℕ) (ds : List TaggedBody) (rest : List Bool) → All (λ d. IsDescriptor d) ds → length (spell_counted (loop_bytes ds)) < 32768 → read_counted_loop rule left behind (spell_counted (loop_bytes ds) ++ rest) ≡ Ok (ds, rest)
unfolding read_counted_loop
loop-again laws rule left behind ds rest all few =
    let small : length (loop_bytes ds) < 4096 = omega (arith, counted_length laws.sizes (loop_bytes ds)) in
    rw (counted-again laws rule left behind (loop_bytes ds) rest (loop-bytes ds all) small, laws.loop ds) refl

pub last-again : ReadAgain → (ds : List TaggedBody) → All (λ d. IsDescriptor d) ds → read_last_loop (bits_of (loop_bytes ds)) ≡ Ok (ds, [])
unfolding read_last_loop
last-again laws ds all = rw (rest-again laws (loop_bytes ds) (loop-bytes ds all), laws.loop ds) refl

pub none-is : (ds : List TaggedBody) → none_there ds ≡ true → ds ≡ []
none-is [] none = refl
none-is (d ∷ ds) none = cc

described-again : ReadAgain → (described : Bool) (left behind : ℕ) (ds : List TaggedBody) (rest : List Bool) → (described || none_there ds) ≡ true → All (λ d. IsDescriptor d) ds → length (spell_described described ds) < 32768 → read_described described left behind (spell_described described ds ++ rest) ≡ Ok (ds, rest)
unfolding read_described
described-again laws true left behind ds rest there all few = loop-again laws Loop left behind ds rest all few
described-again laws false left behind ds rest there all few = ap (λ l. Ok (l, rest)) (sym (none-is ds there))

-- ---- an item

pub item-again : ReadAgain → (i : ItemPage) (behind : ℕ) (x : ItemHolding) (rest : List Bool) → item_sound i ≡ true → item_fits i x ≡ true → All (λ d. IsDescriptor d) x.descriptors → length (spell_item i x) < 32768 → read_item i behind (spell_item i x ++ rest) ≡ Ok (x, rest)
unfolding read_item spell_item
item-again laws i behind x rest sound fit all few =
    let parts = and_parts (fits i.rows x.values) (i.described || none_there x.descriptors) fit in
    let closed : closed_rows i.rows ≡ true = (and_parts (closed_rows i.rows) (nat_lt 0 (fixed_part i) && nat_eq (fixed_part i % 8) 0) sound).0 in
    let size = item_length laws.sizes i x parts.0 in
    let rows : List Bool = spell_rows i.rows x.values in
    let own : List Bool = spell_described i.described x.descriptors in
    let from : List Bool = (rows ++ own) ++ rest in
    let less : length own < 32768 = omega (arith, length-append rows own) in
    let enough : nat_le (fixed_part i) (length from) ≡ true = le-leb (fixed_part i) (length from) (omega (arith, size.1, length-append (rows ++ own) rest)) in
    let fields : read_fields Time behind i.rows from ≡ Ok (x.values, own ++ rest) =
    ap (read_fields Time behind i.rows) (append_assoc rows own rest) ∙ fields-again laws Time behind i.rows x.values (own ++ rest) closed parts.0 in
    rw (enough, fields, described-again laws i.described (length from + behind) behind x.descriptors rest parts.1 all less) refl

next-again : ReadAgain → (one_zero : Bool) (i : ItemPage) (seen now : Bool) (behind : ℕ) (x : ItemHolding) (rest : List Bool) → item_sound i ≡ true → item_fits i x ≡ true → All (λ d. IsDescriptor d) x.descriptors → length (spell_item i x) < 32768
    → count_zero one_zero seen x.values (length (spell_item i x ++ rest) + behind) ≡ Ok now → read_next one_zero i seen behind (spell_item i x ++ rest) ≡ Ok (x, now, rest)
unfolding read_next
next-again laws one_zero i seen now behind x rest sound fit all few zero_is =
    rw (item-again laws i behind x rest sound fit all few, zero_is) refl

-- ---- items one after another

-- one item more: whether there was one with 0 so far
zeros-by : (here stood now : Bool) (left : ℕ) (after : Bool → Option Bool) → (if here then (if stood then None else after true) else after stood) ≡ Some now
    → (z : Bool) × ((if here then (if stood then broken Network left else Ok true) else Ok stood) ≡ Ok z) × (after z ≡ Some now)
zeros-by true true now left after is = cc
zeros-by true false now left after is = (true, refl, is)
zeros-by false stood now left after is = (stood, refl, is)

zeros-step : (one_zero seen now : Bool) (x : ItemHolding) (xs : List ItemHolding) (left : ℕ) → zeros_from one_zero seen (x ∷ xs) ≡ Some now → (z : Bool) × (count_zero one_zero seen x.values left ≡ Ok z) × (zeros_from one_zero z xs ≡ Some now)
unfolding zeros_from
zeros-step one_zero seen now x xs left is = zeros-by (one_zero && is_zero (first_number x.values)) seen now left (λ s. zeros_from one_zero s xs) is

items-step : (most : ℕ) (one_zero : Bool) (i : ItemPage) (seen now last : Bool) (behind : ℕ) (from rest : List Bool) (x : ItemHolding) (xs : List ItemHolding) → 0 < length from → read_next one_zero i seen behind from ≡ Ok (x, now, rest)
    → read_items most one_zero i now behind rest ≡ Ok (xs, last) → read_items (suc most) one_zero i seen behind from ≡ Ok (x ∷ xs, last)
unfolding read_items
items-step most one_zero i seen now last behind [] rest x xs some is more = absurd (omega arith)
items-step most one_zero i seen now last behind (b ∷ bs) rest x xs some is more = rw (is, more) refl

pub zeros-end : (one_zero seen now : Bool) → zeros_from one_zero seen [] ≡ Some now → seen ≡ now
unfolding zeros_from
zeros-end one_zero seen now is = cc

items-none : (most : ℕ) (one_zero : Bool) (i : ItemPage) (seen : Bool) (behind : ℕ) → read_items most one_zero i seen behind [] ≡ Ok ([], seen)
unfolding read_items
items-none most one_zero i seen behind = refl

-- what a list of items must meet
pub record ItemsServe (i : ItemPage) (xs : List ItemHolding) : Type 0 where
  pub fit : list_all (item_fits i) xs ≡ true
  pub some : All (λ x. All (λ d. IsDescriptor d) x.descriptors) xs

item-some : ReadAgain → (i : ItemPage) (x : ItemHolding) → item_sound i ≡ true → item_fits i x ≡ true → 0 < length (spell_item i x)
item-some laws i x sound fit =
    let takes = item_length laws.sizes i x (and_parts (fits i.rows x.values) (i.described || none_there x.descriptors) fit).0 in
    let width = (and_parts (closed_rows i.rows) (nat_lt 0 (fixed_part i) && nat_eq (fixed_part i % 8) 0) sound).1 in
    let some : 0 < fixed_part i = ltb-true 0 (fixed_part i) (and_parts (nat_lt 0 (fixed_part i)) (nat_eq (fixed_part i % 8) 0) width).0 in
    omega (arith, takes.1)

pub items-again : ReadAgain → (most : ℕ) (one_zero : Bool) (i : ItemPage) (seen now : Bool) (behind : ℕ) (xs : List ItemHolding) → item_sound i ≡ true → ItemsServe i xs → length (flat_map (spell_item i) xs) < 32768 → length (flat_map (spell_item i) xs) ≤ most
    → zeros_from one_zero seen xs ≡ Some now → read_items most one_zero i seen behind (flat_map (spell_item i) xs) ≡ Ok (xs, now)
items-again laws most one_zero i seen now behind [] sound serve few enough zeros =
    items-none most one_zero i seen behind ∙ ap (λ s. Ok ([], s)) (zeros-end one_zero seen now zeros)
items-again laws zero one_zero i seen now behind (x ∷ xs) sound serve few enough zeros =
    let some = item-some laws i x sound (and_parts (item_fits i x) (list_all (item_fits i) xs) serve.fit).0 in
    absurd (omega (arith, length-append (spell_item i x) (flat_map (spell_item i) xs)))
items-again laws (suc most) one_zero i seen now behind (x ∷ xs) sound serve few enough zeros =
    let parts = and_parts (item_fits i x) (list_all (item_fits i) xs) serve.fit in
    let here = All-head (λ y. All (λ d. IsDescriptor d) y.descriptors) x xs serve.some in
    let others : ItemsServe i xs = record { fit = parts.1; some = All-tail (λ y. All (λ d. IsDescriptor d) y.descriptors) x xs serve.some } in
    let rest : List Bool = flat_map (spell_item i) xs in
    let sum = length-append (spell_item i x) rest in
    let some = item-some laws i x sound parts.0 in
    let step = zeros-step one_zero seen now x xs (length (spell_item i x ++ rest) + behind) zeros in
    let there = next-again laws one_zero i seen step.0 behind x rest sound parts.0 here (omega (arith, sum)) step.1 in
    items-step most one_zero i seen step.0 now behind (spell_item i x ++ rest) rest x xs (omega (arith, sum)) there
    (items-again laws most one_zero i step.0 now behind xs sound others (omega (arith, sum)) (omega (arith, sum)) step.2)
