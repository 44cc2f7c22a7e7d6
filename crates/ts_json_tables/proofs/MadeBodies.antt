-- The bodies of a table's sections are bytes, and leave room for the head and the CRC.
use Rattle.std.proofs.Common.{◌≡◌, ℕ, zero, suc, ◌+◌, ◌*◌, ◌/◌, ◌<◌, ◌≤◌, Bool, true, false, List, [], ◌∷◌, ◌++◌, length, take, drop, map, refl, ap, ◌∙◌, subst, arith, length-append}
use Rattle.std.specs.Prelude.{Option, Some, None, Ok, nat_le, nat_lt, if◌then◌else◌}
use Rattle.std.specs.List.{list_all, flat_map}
use Rattle.std.proofs.lemmas.Bool.{and_from, cond_both, le-leb, leb-true, ltb-false}
use Rattle.std.proofs.lemmas.List.{length-drop, length-map}
use Rattle.ts_bits.specs.TaggedBody.{descriptor_bytes, loop_bytes}
use Rattle.ts_fields.specs.Bits.{bits, bits_of, number_of}
use Rattle.ts_fields.specs.Fitting.{are_bytes}
use Rattle.ts_fields.specs.Layout.{Held}
use Rattle.ts_fields.specs.Reading.{read_bytes, read_number}
use Rattle.ts_fields.specs.Spelling.{spell_rows}
use Rattle.ts_table_rows.specs.declared.layout.LoopForm.{LoopForm}
use Rattle.ts_table_rows.specs.declared.layout.LoopForm.TheVariants.{Absent, Counted, ToEnd}
use Rattle.ts_table_rows.specs.BodySpelling.{body_row, bytes_of, common_values, head_values, item_row, read_row, spell_after, spell_counted, spell_own, spell_parts}
use Rattle.ts_table_rows.specs.Filling.{AllFit, Each, pieces, total}
use Rattle.ts_table_rows.specs.TablePages.{ItemPage, TablePage}
use Rattle.ts_table_rows.specs.TableSections.{Thing, above, body_rows, empty_length, first_large, item_thing, items_in, length_with, own_thing, owns_in, piece_body, plus, room_in, thing_size, things, unless_large}
use Rattle.ts_table_rows.specs.TableValues.{BodyHolding}
use Rattle.ts_json_tables.specs.ValidTables.{is_payload}

-- what the layer below ensures of numbers and bytes that are written and read
pub record Spelled : Type 0 where
  pub wide : (count value : ℕ) → length (bits count value) ≡ count
  pub long : (row : List ℕ) → length (bits_of row) ≡ 8 * length row
  pub read : (count : ℕ) (row : List ℕ) (from rest : List Bool) → read_bytes count from ≡ Some (row, rest)
      → (from ≡ bits_of row ++ rest) × (length row ≡ count) × (are_bytes row ≡ true)

-- ---- bits as bytes

one_there : (from : List Bool) → 8 ≤ length from → read_number 8 from ≡ Some (number_of (take 8 from), drop 8 from)
unfolding read_number
one_there from enough = rw (le-leb 8 (length from) enough) refl

bytes_there : (count : ℕ) (from : List Bool) → 8 * count ≤ length from → (x : List ℕ × List Bool) × (read_bytes count from ≡ Some x)
unfolding read_bytes
bytes_there zero from enough = (([], from), refl)
bytes_there (suc count) from enough =
    let more = bytes_there count (drop 8 from) (omega (arith, length-drop 8 from, enough)) in
    ((number_of (take 8 from) ∷ more.0.0, more.0.1), rw (one_there from (omega (arith, enough)), more.1) refl)

pub bytes_length : Spelled → (bs : List Bool) → (length (bytes_of bs) ≡ length bs / 8) × (are_bytes (bytes_of bs) ≡ true)
unfolding bytes_of
bytes_length law bs =
    let found = bytes_there (length bs / 8) bs (omega arith) in
    let told = law.read (length bs / 8) found.0.0 bs found.0.1 found.1 in
    let same : read_row (read_bytes (length bs / 8) bs) ≡ found.0.0 = ap read_row found.1 in
    (ap length same ∙ told.1, ap are_bytes same ∙ told.2)

-- ---- how many bits a body takes

counted_length : Spelled → (row : List ℕ) → length (spell_counted row) ≡ 12 + 8 * length row
unfolding spell_counted
counted_length law row = omega (arith, length-append (bits 12 (length row)) (bits_of row), law.wide 12 (length row), law.long row)

own_length : Spelled → (form : LoopForm) (row : List ℕ) → length (spell_own form row) ≤ length (spell_own form []) + 8 * length row
own_length law Absent row = omega arith
own_length law Counted row = omega (arith, counted_length law row, counted_length law [])
own_length law ToEnd row = omega (arith, law.long row)

counted_items : Spelled → (counted : Bool) (row : List ℕ) → length (if counted then bits 4 15 ++ spell_counted row else bits_of row) ≤ length (if counted then bits 4 15 ++ spell_counted [] else bits_of []) + 8 * length row
counted_items law true row = omega (arith, length-append (bits 4 15) (spell_counted row), length-append (bits 4 15) (spell_counted []), counted_length law row, counted_length law [])
counted_items law false row = omega (arith, law.long row)

after_length : Spelled → (items : Option ItemPage) (row : List ℕ) → length (spell_after items row) ≤ length (spell_after items []) + 8 * length row
after_length law None row = omega arith
after_length law (Some i) row = counted_items law i.counted row

four_parts : (a b c d : List Bool) → length (a ++ (b ++ (c ++ d))) ≡ length a + length b + length c + length d
four_parts a b c d = omega (arith, length-append a (b ++ (c ++ d)), length-append b (c ++ d), length-append c d)

parts_length : Spelled → (p : TablePage) (values : List Held) (own items : List ℕ)
    → length (spell_parts p values own items) ≤ length (spell_parts p values [] []) + 8 * (length own + length items)
unfolding spell_parts
parts_length law p values own items =
    let a = spell_rows p.common (common_values p values) in
    let b = spell_rows p.head (head_values p values) in
    omega (arith, four_parts a b (spell_own p.loop_form own) (spell_after p.items items), four_parts a b (spell_own p.loop_form []) (spell_after p.items []), own_length law p.loop_form own, after_length law p.items items)

-- ---- pieces within the room

total_append : {A : Type 0} (size : A → ℕ) (xs ys : List A) → total size (xs ++ ys) ≡ total size xs + total size ys
total_append size [] ys = omega arith
total_append size (x ∷ xs) ys = omega (arith, total_append size xs ys)

pieces_fit : {A : Type 0} (size : A → ℕ) (room used : ℕ) (hand xs : List A) → total size hand ≡ used → used ≤ room → Each size room xs
    → AllFit size room (pieces size room used hand xs)
unfolding pieces
pieces_fit size room used hand [] is within each = (omega (arith, is, within), tt)
pieces_fit size room used hand (x ∷ xs) is within each =
    cond_both (nat_le (used + size x) room) _ _ (λ ps. AllFit size room ps)
    (λ fits. pieces_fit size room (used + size x) (hand ++ x ∷ []) xs (omega (arith, total_append size hand (x ∷ []), is)) (leb-true (used + size x) room fits) each.1)
    (λ full. (omega (arith, is, within), pieces_fit size room (size x) (x ∷ []) xs (omega arith) each.0 each.1))

pieces_some : {A : Type 0} (size : A → ℕ) (room used : ℕ) (hand xs : List A) → 0 < length (pieces size room used hand xs)
unfolding pieces
pieces_some size room used hand [] = omega arith
pieces_some size room used hand (x ∷ xs) =
    cond_both (nat_le (used + size x) room) (pieces size room (used + size x) (hand ++ x ∷ []) xs) (hand ∷ pieces size room (size x) (x ∷ []) xs) (λ ps. 0 < length ps)
    (λ fits. pieces_some size room (used + size x) (hand ++ x ∷ []) xs)
    (λ full. omega arith)

none_large : (p : TablePage) (room : ℕ) (xs : List Thing) → first_large p room xs ≡ None → Each (thing_size p) room xs
none_large p room [] is = tt
none_large p room (x ∷ xs) none =
    cond_both (nat_lt room (thing_size p x)) _ _ (λ (o : Option ℕ). o ≡ None → Each (thing_size p) room (x ∷ xs))
    (λ large is. cc)
    (λ small is. (ltb-false room (thing_size p x) small, none_large p room xs is))
    none

-- ---- a body

-- what is in a piece takes as many bytes as its things
piece_total : (p : TablePage) (piece : List Thing) → length (loop_bytes (owns_in piece)) + length (flat_map (item_row p.items) (items_in piece)) ≡ total (thing_size p) piece
piece_total p [] = refl
piece_total p (own_thing d ∷ piece) =
    omega (arith, piece_total p piece, length-append (descriptor_bytes d) (loop_bytes (owns_in piece)))
piece_total p (item_thing x ∷ piece) =
    omega (arith, piece_total p piece, length-append (item_row p.items x) (flat_map (item_row p.items) (items_in piece)))

piece_length : Spelled → (p : TablePage) (values : List Held) (piece : List Thing) → length_with p (piece_body values piece) ≤ empty_length p values + total (thing_size p) piece
piece_length law p values piece =
    let own : List ℕ = loop_bytes (owns_in piece) in
    let items : List ℕ = flat_map (item_row p.items) (items_in piece) in
    omega (arith, (bytes_length law (spell_parts p values own items)).0, (bytes_length law (spell_parts p values [] [])).0, parts_length law p values own items, piece_total p piece)

-- ---- the bodies of a table

-- bodies are not empty, are bytes, and leave room for the head and the CRC
pub record AreBodies (single : Bool) (rows : List (List ℕ)) : Type 0 where
  pub small : list_all (is_payload 4084) rows ≡ true
  pub bytes : list_all are_bytes rows ≡ true
  pub some : 0 < length rows
  pub one : single ≡ true → length rows ≡ 1

rows_bytes : Spelled → (p : TablePage) (bodies : List BodyHolding) → list_all are_bytes (map (body_row p) bodies) ≡ true
rows_bytes law p [] = refl
rows_bytes law p (b ∷ bodies) =
    and_from (are_bytes (body_row p b)) (list_all are_bytes (map (body_row p) bodies))
    (bytes_length law (spell_parts p b.values (loop_bytes b.descriptors) (flat_map (item_row p.items) b.items))).1 (rows_bytes law p bodies)

pieces_small : Spelled → (p : TablePage) (values : List Held) (ps : List (List Thing)) → p.most ≤ 4093 → empty_length p values ≤ p.most
    → AllFit (thing_size p) (room_in p values) ps → list_all (is_payload 4084) (map (body_row p) (map (piece_body values) ps)) ≡ true
pieces_small law p values [] most least fit = refl
pieces_small law p values (piece ∷ ps) most least fit =
    let size = piece_length law p values piece in
    and_from (is_payload 4084 (body_row p (piece_body values piece))) (list_all (is_payload 4084) (map (body_row p) (map (piece_body values) ps)))
    (le-leb (length (body_row p (piece_body values piece))) 4084 (omega (arith, size, fit.0, most, least)))
    (pieces_small law p values ps most least fit.1)

not_large : (o : Option ℕ) (rows made : List (List ℕ)) → unless_large o rows ≡ Ok made → (o ≡ None) × (rows ≡ made)
not_large None rows made is = (refl, cc)
not_large (Some n) rows made is = cc

above_none : (most n : ℕ) → above most n ≡ None → n ≤ most
above_none most n = cond_both (nat_lt most n) _ _ (λ (o : Option ℕ). o ≡ None → n ≤ most) (λ large is. cc) (λ small is. ltb-false most n small)

plus_none : (n : ℕ) (o : Option ℕ) → plus n o ≡ None → o ≡ None
plus_none n None is = refl
plus_none n (Some m) is = cc

bodies_by : Spelled → (p : TablePage) (b : BodyHolding) (single : Bool) (rows : List (List ℕ)) → p.most ≤ 4093
    → unless_large (if single then above p.most (length_with p b) else if nat_lt p.most (empty_length p b.values) then Some (empty_length p b.values) else plus (empty_length p b.values) (first_large p (room_in p b.values) (things b)))
    (map (body_row p) (if single then b ∷ [] else map (piece_body b.values) (pieces (thing_size p) (room_in p b.values) 0 [] (things b)))) ≡ Ok rows
    → AreBodies single rows
bodies_by law p b true rows most is =
    let parts = not_large (above p.most (length_with p b)) (body_row p b ∷ []) rows is in
    let room = above_none p.most (length_with p b) parts.0 in
    subst (AreBodies true) parts.1 (record {
      small = and_from (is_payload 4084 (body_row p b)) true (le-leb (length (body_row p b)) 4084 (omega (arith, room, most))) refl;
      bytes = rows_bytes law p (b ∷ []);
      some = omega arith;
      one = λ single. refl;
    })
bodies_by law p b false rows most written =
    let made : List (List Thing) = pieces (thing_size p) (room_in p b.values) 0 [] (things b) in
    let bodies : List (List ℕ) = map (body_row p) (map (piece_body b.values) made) in
    cond_both (nat_lt p.most (empty_length p b.values)) _ _ (λ (o : Option ℕ). unless_large o bodies ≡ Ok rows → AreBodies false rows)
    (λ large is. cc)
    (λ small is.
    let least = ltb-false p.most (empty_length p b.values) small in
    let parts = not_large (plus (empty_length p b.values) (first_large p (room_in p b.values) (things b))) bodies rows is in
    let each = none_large p (room_in p b.values) (things b) (plus_none (empty_length p b.values) _ parts.0) in
    let count = length-map (map (piece_body b.values) made) (body_row p) ∙ length-map made (piece_body b.values) in
    subst (AreBodies false) parts.1 (record {
      small = pieces_small law p b.values made most least (pieces_fit (thing_size p) (room_in p b.values) 0 [] (things b) refl (omega arith) each);
      bytes = rows_bytes law p (map (piece_body b.values) made);
      some = omega (arith, count, pieces_some (thing_size p) (room_in p b.values) 0 [] (things b));
      one = λ single. cc;
    }))
    written

pub bodies_are : Spelled → (p : TablePage) (b : BodyHolding) (rows : List (List ℕ)) → p.most ≤ 4093 → body_rows p b ≡ Ok rows → AreBodies p.single rows
unfolding body_rows
bodies_are law p b rows most is = bodies_by law p b p.single rows most is
