-- Bodies that are filled with bytes are the bodies of the things of these bytes.
use Rattle.std.proofs.Common.{◌≡◌, ℕ, zero, suc, ◌+◌, ◌-◌, ◌*◌, ◌/◌, ◌<◌, ◌≤◌, Bool, true, false, List, [], ◌∷◌, ◌++◌, length, take, drop, map, refl, sym, ap, ◌∙◌, subst, arith, Vec, Global, append_assoc, append-nil, length-append}
use Rattle.std.specs.Prelude.{All, IsTrue, not, ◌||◌, nat_le, nat_lt, if◌then◌else◌, Result, Ok, Err, Option, Some, None}
use Rattle.std.specs.List.{flat_map}
use Rattle.std.proofs.lemmas.Bool.{leb-true, le-leb, ltb-false, cond_both, false≢true}
use Rattle.std.proofs.lemmas.List.{map-append, length-map, length-drop}
use Rattle.std.proofs.lemmas.List.Elements.{All-cons, All-nil, All-map, All-weaker}
use Rattle.ts_bits.specs.TaggedBody.{TaggedBody, descriptor_bytes, loop_bytes}
use Rattle.ts_fields.specs.Bits.{number_of}
use Rattle.ts_fields.specs.declared.field.FieldValue.{FieldValue}
use Rattle.ts_fields.specs.Layout.{Held, held}
use Rattle.ts_fields.specs.Reading.{read_number, read_bytes}
use Rattle.ts_table_rows.specs.declared.layout.LoopForm.{LoopForm}
use Rattle.ts_table_rows.specs.declared.layout.LoopForm.TheVariants.{Absent, Counted, ToEnd}
use Rattle.ts_table_rows.specs.TablePages.{ItemPage, TablePage, page_sound}
use Rattle.ts_table_rows.specs.TableValues.{ItemHolding, BodyHolding, TableHolding}
use Rattle.ts_table_rows.specs.Filling.{pieces}
use Rattle.ts_table_rows.specs.BodySpelling.{read_row, bytes_of, item_row, spell_parts, body_row}
use Rattle.ts_table_rows.specs.TableSections.{Thing, own_thing, item_thing, things, owns_in, items_in, piece_body, thing_row, thing_size, empty_length, first_large, plus, above, unless_large, body_rows, told_length, sections_with, sections_of, IsRefusal}
use Rattle.ts_table_rows.specs.FilledRows.{thing_view, kind_row, nothing, with_thing, filled, gathered, large_row, row_with, least_length, filled_rows, single_row, rows_by, AreSmall, AreFilled}
use Rattle.ts_table_rows.specs.declared.filling.ThingRow.{ThingRow}
use Rattle.ts_table_rows.specs.declared.fault.TableRefusal.{TableRefusal}
use Rattle.ts_table_rows.specs.declared.fault.TableRefusal.TheVariants.{TooLarge, TooMany, NoMemory}
use Rattle.ts_table_rows.proofs.SizeLemmas.{SpelledBits, own_taken, items_taken, parts_length, parts_of_sound}

-- ---- pieces of things and pieces of bytes

-- the bytes of a thing of either kind
kind-size : (i : Option ItemPage) (x : Thing) → (kind_row i x).1 ≡ thing_row i x
kind-size i (own_thing d) = refl
kind-size i (item_thing x) = refl

-- the bytes of a piece
abbrev pub piece_rows : Option ItemPage → List Thing → List ℕ × List ℕ
piece_rows i piece = (loop_bytes (owns_in piece), flat_map (item_row i) (items_in piece))

gathered-from : (i : Option ItemPage) (a b : List ℕ) (piece : List Thing) → gathered (a, b) (map (kind_row i) piece) ≡ (a ++ loop_bytes (owns_in piece), b ++ flat_map (item_row i) (items_in piece))
unfolding gathered
gathered-from i a b [] = ap (λ l. (l, b)) (sym (append-nil a)) ∙ ap (λ l. (a ++ [], l)) (sym (append-nil b))
gathered-from i a b (own_thing d ∷ piece) =
    gathered-from i (a ++ descriptor_bytes d) b piece ∙ ap (λ l. (l, b ++ flat_map (item_row i) (items_in piece))) (append_assoc a (descriptor_bytes d) (loop_bytes (owns_in piece)))
gathered-from i a b (item_thing x ∷ piece) =
    gathered-from i a (b ++ item_row i x) piece ∙ ap (λ l. (a ++ loop_bytes (owns_in piece), l)) (append_assoc b (item_row i x) (flat_map (item_row i) (items_in piece)))

gathered-piece : (i : Option ItemPage) (piece : List Thing) → gathered nothing (map (kind_row i) piece) ≡ piece_rows i piece
gathered-piece i piece = gathered-from i [] [] piece

gathered-more : (hand : List ℕ × List ℕ) (xs : List (Bool × List ℕ)) (x : Bool × List ℕ) → gathered hand (xs ++ x ∷ []) ≡ with_thing (gathered hand xs) x
unfolding gathered
gathered-more hand [] x = refl
gathered-more hand (y ∷ xs) x = gathered-more (with_thing hand y) xs x

both_ways : {A B : Type 0} (f : A → B) (b c : Bool) (x y : B) (u v : A) → b ≡ c → x ≡ f u → y ≡ f v → (if b then x else y) ≡ f (if c then u else v)
both_ways f b true x y u v same one other = rw same one
both_ways f b false x y u v same one other = rw same other

filled-pieces : (p : TablePage) (room used : ℕ) (hand xs : List Thing) → filled room used (gathered nothing (map (kind_row p.items) hand)) (map (kind_row p.items) xs) ≡ map (λ piece. gathered nothing (map (kind_row p.items) piece)) (pieces (thing_size p) room used hand xs)
unfolding filled pieces gathered
filled-pieces p room used hand [] = refl
filled-pieces p room used hand (x ∷ xs) =
    let i = p.items in
    let size : length (kind_row i x).1 ≡ thing_size p x = ap length (kind-size i x) in
    let longer : with_thing (gathered nothing (map (kind_row i) hand)) (kind_row i x) ≡ gathered nothing (map (kind_row i) (hand ++ x ∷ [])) =
    sym (gathered-more nothing (map (kind_row i) hand) (kind_row i x)) ∙ sym (ap (gathered nothing) (map-append (kind_row i) hand (x ∷ []))) in
    both_ways (map (λ piece. gathered nothing (map (kind_row i) piece))) (nat_le (used + length (kind_row i x).1) room) (nat_le (used + thing_size p x) room) _ _ _ _
    (ap (λ n. nat_le (used + n) room) size)
    (ap (λ n. filled room (used + n) (with_thing (gathered nothing (map (kind_row i) hand)) (kind_row i x)) (map (kind_row i) xs)) size
    ∙ ap (λ h. filled room (used + thing_size p x) h (map (kind_row i) xs)) longer
    ∙ filled-pieces p room (used + thing_size p x) (hand ++ x ∷ []) xs)
    (ap (λ l. gathered nothing (map (kind_row i) hand) ∷ l)
    (ap (λ n. filled room n (with_thing nothing (kind_row i x)) (map (kind_row i) xs)) size
    ∙ ap (λ h. filled room (thing_size p x) h (map (kind_row i) xs)) (sym (gathered-more nothing [] (kind_row i x)))
    ∙ filled-pieces p room (thing_size p x) (x ∷ []) xs))

map-map : {A B C : Type 0} (f : A → B) (g : B → C) (xs : List A) → map g (map f xs) ≡ map (λ x. g (f x)) xs
map-map f g [] = refl
map-map f g (x ∷ xs) = ap (λ l. g (f x) ∷ l) (map-map f g xs)

map-same : {A B : Type 0} (f g : A → B) (xs : List A) → ((x : A) → f x ≡ g x) → map f xs ≡ map g xs
map-same f g [] same = refl
map-same f g (x ∷ xs) same = ap (λ y. y ∷ map f xs) (same x) ∙ ap (λ l. g x ∷ l) (map-same f g xs same)

large-first : (p : TablePage) (room : ℕ) (xs : List Thing) → large_row room (map (kind_row p.items) xs) ≡ first_large p room xs
unfolding large_row
large-first p room [] = refl
large-first p room (x ∷ xs) =
    let size : length (kind_row p.items x).1 ≡ thing_size p x = ap length (kind-size p.items x) in
    rw size (ap (λ o. if nat_lt room (thing_size p x) then Some (thing_size p x) else o) (large-first p room xs))

-- the bodies of the pieces
bodies-same : (p : TablePage) (b : BodyHolding) (room : ℕ) → map (row_with p b.values) (filled room 0 nothing (map (kind_row p.items) (things b))) ≡ map (body_row p) (map (piece_body b.values) (pieces (thing_size p) room 0 [] (things b)))
bodies-same p b room =
    let ps = pieces (thing_size p) room 0 [] (things b) in
    ap (λ h. map (row_with p b.values) (filled room 0 h (map (kind_row p.items) (things b)))) (sym (gathered-piece p.items []))
    ∙ ap (map (row_with p b.values)) (filled-pieces p room 0 [] (things b))
    ∙ map-map (λ piece. gathered nothing (map (kind_row p.items) piece)) (row_with p b.values) ps
    ∙ map-same (λ piece. row_with p b.values (gathered nothing (map (kind_row p.items) piece))) (λ piece. body_row p (piece_body b.values piece)) ps
    (λ piece. ap (row_with p b.values) (gathered-piece p.items piece))
    ∙ sym (map-map (piece_body b.values) (body_row p) ps)

pub owns-things : (ds : List TaggedBody) (xs : List ItemHolding) → owns_in (map own_thing ds ++ map item_thing xs) ≡ ds
owns-things [] [] = refl
owns-things [] (x ∷ xs) = owns-things [] xs
owns-things (d ∷ ds) xs = ap (λ l. d ∷ l) (owns-things ds xs)

pub items-things : (ds : List TaggedBody) (xs : List ItemHolding) → items_in (map own_thing ds ++ map item_thing xs) ≡ xs
items-things [] [] = refl
items-things [] (x ∷ xs) = ap (λ l. x ∷ l) (items-things [] xs)
items-things (d ∷ ds) xs = items-things ds xs

single-same : (p : TablePage) (b : BodyHolding) → row_with p b.values (gathered nothing (map (kind_row p.items) (things b))) ≡ body_row p b
single-same p b =
    ap (row_with p b.values) (gathered-piece p.items (things b)
    ∙ ap (λ ds. (loop_bytes ds, flat_map (item_row p.items) (items_in (things b)))) (owns-things b.descriptors b.items)
    ∙ ap (λ xs. (loop_bytes b.descriptors, flat_map (item_row p.items) xs)) (items-things b.descriptors b.items))

by_most : (b : Bool) (n : ℕ) (o one : Option ℕ) (rows bodies : List (List ℕ)) → o ≡ one → rows ≡ bodies → (if b then Err (TooLarge (told_length n)) else unless_large o rows) ≡ unless_large (if b then Some n else one) bodies
by_most true n o one rows bodies same alike = refl
by_most false n o one rows bodies same alike = rw (same, alike) refl

by_single : (f : BodyHolding → List ℕ) (b : Bool) (x y : Result (List (List ℕ)) TableRefusal) (n m : Option ℕ) (us vs : List BodyHolding) → x ≡ unless_large n (map f us) → y ≡ unless_large m (map f vs)
    → (if b then x else y) ≡ unless_large (if b then n else m) (map f (if b then us else vs))
by_single f true x y n m us vs one other = one
by_single f false x y n m us vs one other = other

pub rows_are_bodies : (p : TablePage) (b : BodyHolding) → rows_by p b.values (map (kind_row p.items) (things b)) ≡ body_rows p b
unfolding body_rows single_row filled_rows
rows_are_bodies p b =
    let least = empty_length p b.values in
    by_single (body_row p) p.single _ _ _ _ _ _
    (ap (λ row. unless_large (above p.most (9 + length row)) (row ∷ [])) (single-same p b))
    (by_most (nat_lt p.most least) least _ _ _ _ (ap (plus least) (large-first p (p.most - least) (things b))) (bodies-same p b (p.most - least)))

-- ---- each body is small

-- bytes that are there are read
pub all_read : (n : ℕ) (bs : List Bool) → 8 * n ≤ length bs → (x : List ℕ × List Bool) × (read_bytes n bs ≡ Some x) × (length x.0 ≡ n)
unfolding read_bytes read_number
all_read zero bs enough = (([], bs), refl, refl)
all_read (suc n) bs enough =
    let here : nat_le 8 (length bs) ≡ true = le-leb 8 (length bs) (omega arith) in
    let more = all_read n (drop 8 bs) (omega (arith, length-drop 8 bs)) in
    ((number_of (take 8 bs) ∷ more.0.0, more.0.1), rw (here, more.1) refl, omega (arith, more.2))

pub length-bytes_of : (bs : List Bool) → length (bytes_of bs) ≡ length bs / 8
unfolding bytes_of
length-bytes_of bs =
    let read = all_read (length bs / 8) bs (omega arith) in
    ap (λ o. length (read_row o)) read.1 ∙ read.2

own-most : (p : TablePage) (own : List ℕ) → own_taken p.loop_form own ≤ length own
own-most p own = by_form p.loop_form own
  where
    by_form : (form : LoopForm) (row : List ℕ) → own_taken form row ≤ length row
    by_form Absent row = omega arith
    by_form Counted row = omega arith
    by_form ToEnd row = omega arith

items-most : (i : Option ItemPage) (items : List ℕ) → items_taken i items ≤ length items
items-most None items = omega arith
items-most (Some i) items = omega arith

own-none : (form : LoopForm) → own_taken form [] ≡ 0
own-none Absent = refl
own-none Counted = refl
own-none ToEnd = refl

items-none : (i : Option ItemPage) → items_taken i [] ≡ 0
items-none None = refl
items-none (Some i) = refl

-- the length of a body is that of one without things, and of its things
pub row-size : SpelledBits → (p : TablePage) (values : List Held) (hand : List ℕ × List ℕ) → length (row_with p values hand) ≤ length (row_with p values nothing) + (length hand.0 + length hand.1)
row-size laws p values hand =
    let whole = parts_length laws p values hand.0 hand.1 in
    let none = parts_length laws p values [] [] in
    omega (
      arith,
      whole,
      none,
      length-bytes_of (spell_parts p values hand.0 hand.1),
      length-bytes_of (spell_parts p values [] []),
      own-most p hand.0,
      items-most p.items hand.1,
      own-none p.loop_form,
      items-none p.items,
    )

abbrev piece_size : List ℕ × List ℕ → ℕ
piece_size hand = length hand.0 + length hand.1

with_thing-size : (hand : List ℕ × List ℕ) (x : Bool × List ℕ) → piece_size (with_thing hand x) ≡ piece_size hand + length x.1
with_thing-size hand x = by_kind x.0 hand.0 hand.1 x.1
  where
    by_kind : (k : Bool) (a b row : List ℕ) → piece_size (with_thing (a, b) (k, row)) ≡ length a + length b + length row
    by_kind true a b row = omega (arith, length-append b row)
    by_kind false a b row = omega (arith, length-append a row)

pub some_none : (n : ℕ) → ◌≡◌ {A = Option ℕ} (Some n) None → ⊥
some_none n is = cc

-- each piece fits the room where each thing does
filled-fits : (room used : ℕ) (hand : List ℕ × List ℕ) (xs : List (Bool × List ℕ)) → large_row room xs ≡ None → piece_size hand ≡ used → used ≤ room → All (λ piece. piece_size piece ≤ room) (filled room used hand xs)
unfolding large_row filled
filled-fits room used hand [] none size fits = All-cons (λ piece. piece_size piece ≤ room) hand [] (omega arith) (All-nil (λ piece. piece_size piece ≤ room))
filled-fits room used hand (x ∷ xs) none size fits =
    cond_both (nat_lt room (length x.1)) _ _ (λ o. o ≡ None → All (λ piece. piece_size piece ≤ room) (filled room used hand (x ∷ xs)))
    (λ large is. absurd (some_none (length x.1) is))
    (λ small later.
    cond_both (nat_le (used + length x.1) room) _ _ (All (λ piece. piece_size piece ≤ room))
    (λ goes. filled-fits room (used + length x.1) (with_thing hand x) xs later (omega (arith, with_thing-size hand x)) (leb-true (used + length x.1) room goes))
    (λ ends.
    All-cons (λ piece. piece_size piece ≤ room) hand _ (omega arith)
    (filled-fits room (length x.1) (with_thing nothing x) xs later (with_thing-size nothing x ∙ omega arith) (ltb-false room (length x.1) small))))
    none

filled-some : (room used : ℕ) (hand : List ℕ × List ℕ) (xs : List (Bool × List ℕ)) → 0 < length (filled room used hand xs)
unfolding filled
filled-some room used hand [] = omega arith
filled-some room used hand (x ∷ xs) =
    cond_both (nat_le (used + length x.1) room) (filled room (used + length x.1) (with_thing hand x) xs) (hand ∷ filled room (length x.1) (with_thing nothing x) xs) (λ ps. 0 < length ps)
    (λ goes. filled-some room (used + length x.1) (with_thing hand x) xs) (λ ends. omega arith)

rows-small : SpelledBits → (p : TablePage) (values : List Held) (room : ℕ) (pieces : List (List ℕ × List ℕ)) → length (row_with p values nothing) + room ≤ 4084 → All (λ piece. piece_size piece ≤ room) pieces → AreSmall (map (row_with p values) pieces)
rows-small laws p values room pieces most fit =
    All-map (λ row. length row ≤ 4084) (row_with p values) pieces
    (All-weaker (λ piece. piece_size piece ≤ room) (λ piece. length (row_with p values piece) ≤ 4084) (λ piece h. omega (arith, row-size laws p values piece, h)) pieces fit)

pub unless-ok : (o : Option ℕ) (bodies rows : List (List ℕ)) → unless_large o bodies ≡ Ok rows → (o ≡ None) × (bodies ≡ rows)
unless-ok None bodies rows is = (refl, let e : bodies ≡ rows = cc in e)
unless-ok (Some n) bodies rows is = cc

pub plus-none : (n : ℕ) (o : Option ℕ) → plus n o ≡ None → o ≡ None
plus-none n None is = refl
plus-none n (Some m) is = cc

pub above-none : (most n : ℕ) → above most n ≡ None → n ≤ most
above-none most n = cond_both (nat_lt most n) _ _ (λ o. o ≡ None → n ≤ most) (λ large is. absurd (some_none n is)) (λ small is. ltb-false most n small)

pub rows_are_small : SpelledBits → (p : TablePage) (values : List Held) (xs : List (Bool × List ℕ)) (rows : List (List ℕ)) → IsTrue (page_sound p) → rows_by p values xs ≡ Ok rows → AreFilled p rows
unfolding single_row filled_rows
rows_are_small laws p values xs rows sound =
    let most = (parts_of_sound p sound).most in
    let least = least_length p values in
    cond_both p.single (single_row p values xs) (filled_rows p values xs) (λ r. r ≡ Ok rows → AreFilled p rows)
    (λ single is.
    let body = row_with p values (gathered nothing xs) in
    let parts = unless-ok (above p.most (9 + length body)) (body ∷ []) rows is in
    let small : length body ≤ 4084 = omega (arith, above-none p.most (9 + length body) parts.0) in
    let one : AreFilled p (body ∷ []) = record {
      small = All-cons (λ row. length row ≤ 4084) body [] small (All-nil (λ row. length row ≤ 4084));
      some = omega arith;
      one = λ is. refl;
    } in
    subst (AreFilled p) parts.1 one)
    (λ several.
    cond_both (nat_lt p.most least) _ _ (λ r. r ≡ Ok rows → AreFilled p rows)
    (λ large is. cc)
    (λ room is.
    let bodies = filled (p.most - least) 0 nothing xs in
    let parts = unless-ok (plus least (large_row (p.most - least) xs)) (map (row_with p values) bodies) rows is in
    let fits = filled-fits (p.most - least) 0 nothing xs (plus-none least (large_row (p.most - least) xs) parts.0) refl (omega arith) in
    let some = filled-some (p.most - least) 0 nothing xs in
    let inside : least ≤ p.most = ltb-false p.most least room in
    let all : AreFilled p (map (row_with p values) bodies) = record {
      small = rows-small laws p values (p.most - least) bodies (omega arith) fits;
      some = omega (arith, length-map bodies (row_with p values));
      one = λ single. absurd (false≢true (sym several ∙ single));
    } in
    subst (AreFilled p) parts.1 all))

-- ---- the sections of bodies

pub sections_go_on : (p : TablePage) (h : TableHolding) (rows : List (List ℕ)) → body_rows p h.body ≡ Ok rows → sections_of p h ≡ sections_with p h.head rows
unfolding sections_of
sections_go_on p h rows is = rw is refl

pub sections_stop : (p : TablePage) (h : TableHolding) (refusal : TableRefusal) → IsRefusal refusal (body_rows p h.body) → IsRefusal refusal (sections_of p h)
unfolding sections_of
sections_stop p h (TooLarge n) is = rw is refl
sections_stop p h TooMany is = rw is refl
sections_stop p h NoMemory is = tt

-- the bytes of a table of the code are those of the table that it holds
pub rows_same : (p : TablePage) (b : BodyHolding) (values found : List FieldValue) (rows there : List ThingRow) → found ≡ values → there ≡ rows → map held values ≡ b.values → map thing_view rows ≡ map (kind_row p.items) (things b)
    → rows_by p (map held found) (map thing_view there) ≡ body_rows p b
rows_same p b values found rows there values_are rows_are values_hold rows_hold =
    ap (λ vs. rows_by p vs (map thing_view there)) (ap (map held) values_are ∙ values_hold)
    ∙ ap (rows_by p b.values) (ap (map thing_view) rows_are ∙ rows_hold)
    ∙ rows_are_bodies p b

pub keeps_single : (keeps single : Bool) → (not keeps || single) ≡ true → keeps ≡ true → single ≡ true
keeps_single true single either is = either
keeps_single false single either is = cc

abbrev rows_in : List (Vec ℕ Global) → List (List ℕ)
rows_in vs = map (λ row. row.items) vs

-- what numbering requires of bodies
pub bodies_serve : (p : TablePage) (bodies there : List (Vec ℕ Global)) → there ≡ bodies → (not p.keeps_numbers || p.single) ≡ true → AreFilled p (rows_in bodies) → (0 < length there) × (p.keeps_numbers ≡ true → length there ≡ 1) × AreSmall (rows_in there)
bodies_serve p bodies there same either filled_so =
    let count : length (rows_in bodies) ≡ length there = length-map bodies (λ (b : Vec ℕ Global). b.items) ∙ sym (ap length same) in (
      omega (arith, filled_so.some, count),
      λ keeps. sym count ∙ filled_so.one (keeps_single p.keeps_numbers p.single either keeps),
      subst (λ vs. AreSmall (rows_in vs)) (sym same) filled_so.small,
    )
