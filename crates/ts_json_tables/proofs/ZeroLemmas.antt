-- The place of an item with number 0.
use Rattle.std.proofs.Common.{◌≡◌, ℕ, suc, ◌+◌, ◌<◌, ◌≤◌, Bool, true, false, List, [], ◌∷◌, ◌++◌, length, take, drop, get_or, map, refl, sym, ap, ◌∙◌, arith, zero-add, subst}
use Rattle.std.specs.Prelude.{Option, Some, None, option_map, option_to_list, filter, find, not, is_some, if◌then◌else◌}
use Rattle.std.proofs.lemmas.List.{drop_more, drop_all, take-map, drop-map, map-append, get_or-map}
use Rattle.ts_table_rows.specs.declared.table.TableItem.{TableItem}
use Rattle.ts_table_rows.specs.TableFitting.{zeros_from}
use Rattle.ts_table_rows.specs.TableValues.{ItemHolding, item_held}
use Rattle.ts_table_pages.specs.PatEntries.{is_network, ordered}
use Rattle.ts_json_tables.specs.RunTables.{zero_place}

items_left : (items : List TableItem) (i : ℕ) (x : TableItem) → i < length items → x ≡ get_or items i x
    → map item_held (drop i items) ≡ item_held x ∷ map item_held (drop (i + 1) items)
items_left items i x inside same =
    ap (map item_held) (drop_more items i x inside)
    ∙ sym (ap (λ z. item_held z ∷ map item_held (drop (i + 1) items)) same)

place_here : (x : ItemHolding) (xs : List ItemHolding) → is_network x ≡ true → zero_place (x ∷ xs) ≡ Some 0
unfolding zero_place
place_here x xs is = rw is refl

place_later : (x : ItemHolding) (xs : List ItemHolding) → is_network x ≡ false
    → zero_place (x ∷ xs) ≡ option_map (λ n. n + 1) (zero_place xs)
unfolding zero_place
place_later x xs is = rw is refl

one_more : (place : ℕ) (o : Option ℕ)
    → option_map (λ n. n + place) (option_map (λ n. n + 1) o) ≡ option_map (λ n. n + (place + 1)) o
one_more place None = refl
one_more place (Some n) = ap Some (omega arith)

-- the place is here, or later, or nowhere
pub zero_here : (items : List TableItem) (i : ℕ) (x : TableItem) (whole : Option ℕ) → i < length items
    → x ≡ get_or items i x → is_network (item_held x) ≡ true
    → option_map (λ n. n + i) (zero_place (map item_held (drop i items))) ≡ whole → Some i ≡ whole
zero_here items i x whole inside same zero_is so_far =
    ap Some (sym (zero-add i))
    ∙ sym (ap (option_map (λ n. n + i)) (ap zero_place (items_left items i x inside same) ∙ place_here (item_held x) (map item_held (drop (i + 1) items)) zero_is))
    ∙ so_far

pub zero_later : (items : List TableItem) (i : ℕ) (x : TableItem) (whole : Option ℕ) → i < length items
    → x ≡ get_or items i x → is_network (item_held x) ≡ false
    → option_map (λ n. n + i) (zero_place (map item_held (drop i items))) ≡ whole
    → option_map (λ n. n + (i + 1)) (zero_place (map item_held (drop (i + 1) items))) ≡ whole
zero_later items i x whole inside same other so_far =
    sym (one_more i (zero_place (map item_held (drop (i + 1) items))))
    ∙ sym (ap (option_map (λ n. n + i)) (ap zero_place (items_left items i x inside same) ∙ place_later (item_held x) (map item_held (drop (i + 1) items)) other))
    ∙ so_far

pub zero_nowhere : (items : List TableItem) (i : ℕ) (whole : Option ℕ) → length items ≤ i
    → option_map (λ n. n + i) (zero_place (map item_held (drop i items))) ≡ whole → None ≡ whole
unfolding zero_place
zero_nowhere items i whole all so_far =
    sym (ap (λ l. option_map (λ n. n + i) (zero_place (map item_held l))) (drop_all i items all)) ∙ so_far

-- ---- the item with number 0 put first

one_no_more : (b : Bool) (x : ItemHolding) (xs : List ItemHolding) → is_some (if b then None else zeros_from true true xs) ≡ true
    → (is_some (zeros_from true true xs) ≡ true → filter (λ y. not (is_network y)) xs ≡ xs)
    → (if not b then x ∷ filter (λ y. not (is_network y)) xs else filter (λ y. not (is_network y)) xs) ≡ x ∷ xs
one_no_more true x xs left rest = cc
one_no_more false x xs left rest = ap (λ l. x ∷ l) (rest left)

-- after the item with number 0 there is no other
no_more : (xs : List ItemHolding) → is_some (zeros_from true true xs) ≡ true → filter (λ x. not (is_network x)) xs ≡ xs
unfolding zeros_from
no_more [] zeros = refl
no_more (x ∷ xs) zeros = one_no_more (is_network x) x xs zeros (no_more xs)

some_more : (o : Option ℕ) (p : ℕ) → option_map (λ n. n + 1) o ≡ Some p → (q : ℕ) × ((o ≡ Some q) × (p ≡ suc q))
some_more None p is = cc
some_more (Some q) p is = (q, (refl, sym_some q p is))
  where
    sym_some : (q p : ℕ) → ◌≡◌ {A = Option ℕ} (Some (q + 1)) (Some p) → p ≡ suc q
    sym_some q p is = let e : q + 1 ≡ p = cc in omega (arith, e)

-- the item with number 0 and the others
abbrev IsSplit : List ItemHolding → ℕ → ItemHolding → Type 0
IsSplit xs p d = (find is_network xs ≡ Some (get_or xs p d)) × (filter (λ x. not (is_network x)) xs ≡ take p xs ++ drop (suc p) xs)

one_found : (b : Bool) (x : ItemHolding) (xs : List ItemHolding) (p : ℕ) (d : ItemHolding)
    → (if b then Some 0 else option_map (λ n. n + 1) (zero_place xs)) ≡ Some p
    → is_some (if b then zeros_from true true xs else zeros_from true false xs) ≡ true
    → ((q : ℕ) → zero_place xs ≡ Some q → is_some (zeros_from true false xs) ≡ true → IsSplit xs q d)
    → ((if b then Some x else find is_network xs) ≡ Some (get_or (x ∷ xs) p d)) × ((if not b then x ∷ filter (λ y. not (is_network y)) xs else filter (λ y. not (is_network y)) xs) ≡ take p (x ∷ xs) ++ drop (suc p) (x ∷ xs))
one_found true x xs p d here left rest =
    let none : 0 ≡ p = cc in
    subst (λ n. (Some x ≡ Some (get_or (x ∷ xs) n d)) × (filter (λ y. not (is_network y)) xs ≡ take n (x ∷ xs) ++ drop (suc n) (x ∷ xs))) none (refl, no_more xs left)
one_found false x xs p d here left rest =
    let more = some_more (zero_place xs) p here in
    let later = rest more.0 more.1.0 left in
    subst (λ n. (find is_network xs ≡ Some (get_or (x ∷ xs) n d)) × (x ∷ filter (λ y. not (is_network y)) xs ≡ take n (x ∷ xs) ++ drop (suc n) (x ∷ xs))) (sym more.1.1) (later.0, ap (λ l. x ∷ l) later.1)

found : (xs : List ItemHolding) (p : ℕ) (d : ItemHolding) → zero_place xs ≡ Some p
    → is_some (zeros_from true false xs) ≡ true → IsSplit xs p d
unfolding zero_place zeros_from
found [] p d is zeros = cc
found (x ∷ xs) p d is zeros = one_found (is_network x) x xs p d is zeros (λ q at left. found xs q d at left)

none_more : (o : Option ℕ) → option_map (λ n. n + 1) o ≡ None → o ≡ None
none_more None is = refl
none_more (Some n) is = cc

one_nothing : (b : Bool) (x : ItemHolding) (xs : List ItemHolding)
    → (if b then Some 0 else option_map (λ n. n + 1) (zero_place xs)) ≡ None
    → (zero_place xs ≡ None → (find is_network xs ≡ None) × (filter (λ y. not (is_network y)) xs ≡ xs))
    → ((if b then Some x else find is_network xs) ≡ None) × ((if not b then x ∷ filter (λ y. not (is_network y)) xs else filter (λ y. not (is_network y)) xs) ≡ x ∷ xs)
one_nothing true x xs here rest = cc
one_nothing false x xs here rest = let later = rest (none_more (zero_place xs) here) in (later.0, ap (λ l. x ∷ l) later.1)

nothing : (xs : List ItemHolding) → zero_place xs ≡ None → (find is_network xs ≡ None) × (filter (λ x. not (is_network x)) xs ≡ xs)
unfolding zero_place
nothing [] is = (refl, refl)
nothing (x ∷ xs) is = one_nothing (is_network x) x xs is (nothing xs)

-- the items with that of number 0 first
pub zero_first : (items : List TableItem) (p : ℕ) (x : TableItem) → zero_place (map item_held items) ≡ Some p
    → p < length items → x ≡ get_or items p x → is_some (zeros_from true false (map item_held items)) ≡ true
    → map item_held (x ∷ (take p items ++ drop (suc p) items)) ≡ ordered (map item_held items)
zero_first items p x is inside same zeros =
    let xs = map item_held items in
    let split = found xs p (item_held x) is zeros in
    let at : get_or xs p (item_held x) ≡ item_held x = get_or-map item_held items p x (item_held x) inside ∙ ap item_held (sym same) in
    let parts : map item_held (take p items ++ drop (suc p) items) ≡ take p xs ++ drop (suc p) xs =
    map-append item_held (take p items) (drop (suc p) items)
    ∙ ap (λ l. l ++ map item_held (drop (suc p) items)) (sym (take-map item_held p items))
    ∙ ap (λ l. take p xs ++ l) (sym (drop-map item_held (suc p) items)) in
    let first : option_to_list (find is_network xs) ≡ item_held x ∷ [] = ap option_to_list split.0 ∙ ap (λ y. y ∷ []) at in
    ap (λ l. item_held x ∷ l) (parts ∙ sym split.1)
    ∙ sym (ap (λ l. l ++ filter (λ y. not (is_network y)) xs) first)

pub zero_absent : (xs : List ItemHolding) → None ≡ zero_place xs → xs ≡ ordered xs
zero_absent xs is =
    let none = nothing xs (sym is) in
    sym (ap (λ o. option_to_list o ++ filter (λ y. not (is_network y)) xs) none.0 ∙ none.1)

pub zeros_begin : (o : Option ℕ) → option_map (λ n. n + 0) o ≡ o
zeros_begin None = refl
zeros_begin (Some n) = ap Some (omega arith)
