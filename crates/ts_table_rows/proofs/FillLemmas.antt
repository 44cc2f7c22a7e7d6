-- Things as bytes, filled into pieces one after another.
use Rattle.std.proofs.Common.{◌≡◌, ℕ, zero, suc, ◌+◌, ◌<◌, ◌≤◌, Bool, true, false, List, [], ◌∷◌, ◌++◌, length, take, drop, get_or, map, refl, sym, ap, ◌∙◌, subst, arith, append_assoc}
use Rattle.std.specs.Prelude.{All, nat_le, nat_lt, ◌||◌, if◌then◌else◌, Option, Some, None}
use Rattle.std.specs.List.{list_all}
use Rattle.std.proofs.lemmas.Bool.{lt-ltb, le-ltb, and_parts}
use Rattle.std.proofs.lemmas.List.{drop_more, drop_all, take_more, take_all, map-append}
use Rattle.std.proofs.lemmas.List.Elements.{All-push, All-nil}
use Rattle.ts_bits.specs.TaggedBody.{TaggedBody, IsDescriptor}
use Rattle.ts_fields.specs.Fitting.{fits}
use Rattle.ts_table_rows.specs.declared.filling.ThingRow.{ThingRow}
use Rattle.ts_table_rows.specs.declared.filling.Piece.{Piece}
use Rattle.ts_table_rows.specs.TablePages.{ItemPage}
use Rattle.ts_table_rows.specs.TableValues.{ItemHolding}
use Rattle.ts_table_rows.specs.TableFitting.{none_there, item_fits}
use Rattle.ts_table_rows.specs.FilledRows.{thing_view, piece_view, nothing, with_thing, filled, step, IsStep, gathered, large_row}

-- ---- members of a list that a function maps

-- one member more
pub map_one_more : {X Y Z W : Type 0} (f : X → W) (g : Z → W) (h : Y → Z) (old new : List X) (x : X) (ys : List Y) (i : ℕ) (y : Y) → i < length ys → y ≡ get_or ys i y → new ≡ old ++ x ∷ [] → f x ≡ g (h y) → map f old ≡ map g (map h (take i ys)) → map f new ≡ map g (map h (take (i + 1) ys))
map_one_more f g h old new x ys i y inside same is here so_far =
    ap (map f) is ∙ map-append f old (x ∷ [])
    ∙ ap (λ l. l ++ f x ∷ []) so_far ∙ ap (λ z. map g (map h (take i ys)) ++ z ∷ []) (here ∙ ap (λ z. g (h z)) same)
    ∙ sym (map-append g (map h (take i ys)) (h (get_or ys i y) ∷ []))
    ∙ sym (ap (map g) (map-append h (take i ys) (get_or ys i y ∷ [])))
    ∙ sym (ap (λ l. map g (map h l)) (take_more ys i y inside))

pub map_all : {X Y Z W : Type 0} (f : X → W) (g : Z → W) (h : Y → Z) (new : List X) (ys : List Y) (i : ℕ) → length ys ≤ i → map f new ≡ map g (map h (take i ys)) → map f new ≡ map g (map h ys)
map_all f g h new ys i all so_far = so_far ∙ ap (λ l. map g (map h l)) (take_all i ys all)

-- a fact of one member more
pub All_one_more : {Y Z : Type 0} (P : Z → Type 0) (h : Y → Z) (ys : List Y) (i : ℕ) (y : Y) → i < length ys → y ≡ get_or ys i y → P (h y) → All P (map h (take i ys)) → All P (map h (take (i + 1) ys))
All_one_more P h ys i y inside same here so_far =
    let more : map h (take i ys) ++ h y ∷ [] ≡ map h (take (i + 1) ys) =
    ap (λ z. map h (take i ys) ++ h z ∷ []) same ∙ sym (map-append h (take i ys) (get_or ys i y ∷ [])) ∙ sym (ap (map h) (take_more ys i y inside)) in
    subst (All P) more (All-push P (map h (take i ys)) (h y) so_far here)

pub All_all : {Y Z : Type 0} (P : Z → Type 0) (h : Y → Z) (ys : List Y) (i : ℕ) → length ys ≤ i → All P (map h (take i ys)) → All P (map h ys)
All_all P h ys i all so_far = subst (λ l. All P (map h l)) (take_all i ys all) so_far

-- a test of all passes one
pub test_at : {Y Z : Type 0} (t : Z → Bool) (h : Y → Z) (ys : List Y) (i : ℕ) (y : Y) → list_all t (map h ys) ≡ true → i < length ys → y ≡ get_or ys i y → t (h y) ≡ true
test_at t h [] i y all inside same = absurd (omega arith)
test_at t h (x ∷ ys) zero y all inside same = ap (λ z. t (h z)) same ∙ (and_parts (t (h x)) (list_all t (map h ys)) all).0
test_at t h (x ∷ ys) (suc i) y all inside same = test_at t h ys i y (and_parts (t (h x)) (list_all t (map h ys)) all).1 (omega arith) same

-- the descriptors of an item are valid, where it has none too
pub described_fit : (i : ItemPage) (x : ItemHolding) → item_fits i x ≡ true → (i.described ≡ true → All (λ d. IsDescriptor d) x.descriptors) → All (λ d. IsDescriptor d) x.descriptors
described_fit i x fit written = by_form i.described x.descriptors (and_parts (fits i.rows x.values) (i.described || none_there x.descriptors) fit).1 written
  where
    by_form : (described : Bool) (ds : List TaggedBody) → (described || none_there ds) ≡ true → (described ≡ true → All (λ d. IsDescriptor d) ds) → All (λ d. IsDescriptor d) ds
    by_form true ds fit written = written refl
    by_form false [] fit written = All-nil (λ d. IsDescriptor d)
    by_form false (d ∷ ds) fit written = cc

-- ---- pieces

rows_left : (rows : List ThingRow) (i : ℕ) (r : ThingRow) → i < length rows → r ≡ get_or rows i r → map thing_view (drop i rows) ≡ thing_view r ∷ map thing_view (drop (i + 1) rows)
rows_left rows i r inside same = ap (map thing_view) (drop_more rows i r inside) ∙ sym (ap (λ x. thing_view x ∷ map thing_view (drop (i + 1) rows)) same)

both_ways : {A B : Type 0} (f : A → B) (b : Bool) (x y : A) (u v : B) → f x ≡ u → f y ≡ v → f (if b then x else y) ≡ (if b then u else v)
both_ways f true x y u v one other = one
both_ways f false x y u v one other = other

filled-step : (room used : ℕ) (hand : List ℕ × List ℕ) (x : Bool × List ℕ) (xs : List (Bool × List ℕ)) → (step room used hand x).0 ++ filled room (step room used hand x).2 (step room used hand x).1 xs ≡ filled room used hand (x ∷ xs)
unfolding filled
filled-step room used hand x xs =
    both_ways (λ (s : List (List ℕ × List ℕ) × (List ℕ × List ℕ) × ℕ). s.0 ++ filled room s.2 s.1 xs) (nat_le (used + length x.1) room) ([], with_thing hand x, used + length x.1) (hand ∷ [], with_thing nothing x, length x.1) _ _ refl refl

pub fill_goes_on : (room used : ℕ) (hand : List ℕ × List ℕ) (old new : List (List ℕ × List ℕ)) (rows : List ThingRow) (i : ℕ) (r : ThingRow) (piece : List ℕ × List ℕ) (more : ℕ) (whole : List (List ℕ × List ℕ)) → i < length rows → r ≡ get_or rows i r
    → IsStep old new (step room used hand (thing_view r)) piece more → old ++ filled room used hand (map thing_view (drop i rows)) ≡ whole → new ++ filled room more piece (map thing_view (drop (i + 1) rows)) ≡ whole
fill_goes_on room used hand old new rows i r piece more whole inside same made so_far =
    let s = step room used hand (thing_view r) in
    let rest = map thing_view (drop (i + 1) rows) in
    ap (λ l. l ++ filled room more piece rest) made.ended
    ∙ ap (λ n. (old ++ s.0) ++ filled room n piece rest) made.takes
    ∙ ap (λ h. (old ++ s.0) ++ filled room s.2 h rest) made.in_hand
    ∙ append_assoc old s.0 (filled room s.2 s.1 rest)
    ∙ ap (λ l. old ++ l) (filled-step room used hand (thing_view r) rest)
    ∙ sym (ap (λ l. old ++ filled room used hand l) (rows_left rows i r inside same)) ∙ so_far

pub fill_ends : (room used : ℕ) (hand : Piece) (old new : List Piece) (rows : List ThingRow) (i : ℕ) (whole : List (List ℕ × List ℕ)) → length rows ≤ i → new ≡ old ++ hand ∷ [] → map piece_view old ++ filled room used (piece_view hand) (map thing_view (drop i rows)) ≡ whole → map piece_view new ≡ whole
unfolding filled
fill_ends room used hand old new rows i whole all is so_far =
    ap (map piece_view) is ∙ map-append piece_view old (hand ∷ [])
    ∙ sym (ap (λ l. map piece_view old ++ filled room used (piece_view hand) (map thing_view l)) (drop_all i rows all)) ∙ so_far

pub gather_goes_on : (hand piece : List ℕ × List ℕ) (rows : List ThingRow) (i : ℕ) (r : ThingRow) (whole : List ℕ × List ℕ) → i < length rows → r ≡ get_or rows i r → piece ≡ with_thing hand (thing_view r)
    → gathered hand (map thing_view (drop i rows)) ≡ whole → gathered piece (map thing_view (drop (i + 1) rows)) ≡ whole
unfolding gathered
gather_goes_on hand piece rows i r whole inside same is so_far =
    ap (λ h. gathered h (map thing_view (drop (i + 1) rows))) is ∙ sym (ap (gathered hand) (rows_left rows i r inside same)) ∙ so_far

pub gather_ends : (hand : List ℕ × List ℕ) (rows : List ThingRow) (i : ℕ) (whole : List ℕ × List ℕ) → length rows ≤ i → gathered hand (map thing_view (drop i rows)) ≡ whole → hand ≡ whole
unfolding gathered
gather_ends hand rows i whole all so_far = sym (ap (λ l. gathered hand (map thing_view l)) (drop_all i rows all)) ∙ so_far

pub large_here : (room n : ℕ) (rows : List ThingRow) (i : ℕ) (r : ThingRow) (whole : Option ℕ) → i < length rows → r ≡ get_or rows i r → n ≡ length r.bytes.items → room < n → large_row room (map thing_view (drop i rows)) ≡ whole → Some n ≡ whole
unfolding large_row
large_here room n rows i r whole inside same is large so_far =
    let here : nat_lt room (length r.bytes.items) ≡ true = lt-ltb room (length r.bytes.items) (omega (arith, is)) in
    ap Some is ∙ sym (sym so_far ∙ ap (large_row room) (rows_left rows i r inside same) ∙ rw here refl)

pub large_later : (room n : ℕ) (rows : List ThingRow) (i : ℕ) (r : ThingRow) (whole : Option ℕ) → i < length rows → r ≡ get_or rows i r → n ≡ length r.bytes.items → n ≤ room → large_row room (map thing_view (drop i rows)) ≡ whole → large_row room (map thing_view (drop (i + 1) rows)) ≡ whole
unfolding large_row
large_later room n rows i r whole inside same is small so_far =
    let here : nat_lt room (length r.bytes.items) ≡ false = le-ltb room (length r.bytes.items) (omega (arith, is)) in
    sym (sym so_far ∙ ap (large_row room) (rows_left rows i r inside same) ∙ rw here refl)

pub large_none : (room : ℕ) (rows : List ThingRow) (i : ℕ) (whole : Option ℕ) → length rows ≤ i → large_row room (map thing_view (drop i rows)) ≡ whole → None ≡ whole
unfolding large_row
large_none room rows i whole all so_far = sym (ap (λ l. large_row room (map thing_view l)) (drop_all i rows all)) ∙ so_far
