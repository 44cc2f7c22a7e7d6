-- The contents are the last tables of the keys.
use Rattle.std.proofs.Common.{◌≡◌, ℕ, Bool, true, false, not, ◌&&◌, ◌||◌, ◌==◌, List, [], ◌∷◌, ◌++◌, fold, filter, Option, Some, None, refl, sym, ◌∙◌, ap, subst, append-nil, append_assoc}
use Rattle.std.specs.Prelude.{if◌then◌else◌}
use Rattle.std.specs.List.{filter_map, list_any}
use Rattle.std.specs.Option.{option_or}
use Rattle.std.specs.Bool.{beq}
use Rattle.std.specs.Map.{keys_of, lookup}
use Rattle.std.proofs.lemmas.Bool.{eqb-true}
use Rattle.std.proofs.lemmas.Map.Views.{any-filter_same}
use Rattle.std.proofs.lemmas.List.Elements.{filter-append, filter_map-append}
use Rattle.indexmap.specs.IndexMap.{insert_entry}
use Rattle.ts_demux.specs.declared.table_key.TableKey.{TableKey}
use Rattle.ts_demux.specs.Keys.{key_eq, key_of_table}
use Rattle.plug_psi.specs.Contents.{Entry, with_table, with_entry, entries_of}
use Rattle.plug_psi.specs.LastTables.{entry_of, entry_under, first_keys, last_of, AreLast}
use Rattle.plug_psi.proofs.Choice.{if_true, if_false}

-- Keys that are equal are the same.

both_true : (a b : Bool) → (a && b) ≡ true → (a ≡ true) × (b ≡ true)
both_true true b e = (refl, e)
both_true false b e = cc

beq_same : (a b : Bool) → beq a b ≡ true → a ≡ b
beq_same true true e = refl
beq_same true false e = cc
beq_same false true e = cc
beq_same false false e = refl

same_key : (i j x y : ℕ) (b c : Bool) → i ≡ j → x ≡ y → b ≡ c →
    (let k : TableKey = record { table_id = i; extension = x; current = b } in k) ≡ record { table_id = j; extension = y; current = c }
same_key i j x y b c e f g = cc

key-same : (a b : TableKey) → key_eq a b ≡ true → a ≡ b
key-same a b e =
    let f = both_true (a.table_id == b.table_id) ((a.extension == b.extension) && beq a.current b.current) e in
    let g = both_true (a.extension == b.extension) (beq a.current b.current) f.1 in
    same_key a.table_id b.table_id a.extension b.extension a.current b.current (eqb-true a.table_id b.table_id f.0) (eqb-true a.extension b.extension g.0) (beq_same a.current b.current g.1)

turned_true : (a b : TableKey) → key_eq a b ≡ true → key_eq b a ≡ true
turned_true a b e = (let s = key-same a b e in ap (λ t. key_eq t a) (sym s) ∙ ap (λ t. key_eq a t) s ∙ e)

-- a key equals another as the other equals it
turned : (a b : TableKey) (v : Bool) → key_eq a b ≡ v → key_eq b a ≡ v
turned a b true e = turned_true a b e
turned a b false e = other (key_eq b a) refl
  where
    other : (w : Bool) → key_eq b a ≡ w → key_eq b a ≡ false
    other true f = f ∙ (sym (turned_true b a f) ∙ e)
    other false f = f

-- The keys.

-- a key after others, unless it is among them
with_key : List TableKey → TableKey → List TableKey
with_key ks k = if list_any (key_eq k) ks then ks else ks ++ k ∷ []

keys-inserted : (es : List Entry) (k : TableKey) (v : List (List ℕ)) → keys_of (insert_entry key_eq es k v) ≡ with_key (keys_of es) k
unfolding with_key
keys-inserted [] k v = refl
keys-inserted (e ∷ es) k v = by_head (key_eq k e.0) (keys-inserted es k v)
  where
    by_rest : (b : Bool) → e.0 ∷ (if b then keys_of es else keys_of es ++ k ∷ []) ≡ (if b then e.0 ∷ keys_of es else e.0 ∷ (keys_of es ++ k ∷ []))
    by_rest true = refl
    by_rest false = refl

    by_head : (b : Bool) → keys_of (insert_entry key_eq es k v) ≡ (if list_any (key_eq k) (keys_of es) then keys_of es else keys_of es ++ k ∷ []) →
        keys_of (if b then (e.0, v) ∷ es else e ∷ insert_entry key_eq es k v) ≡ (if b || list_any (key_eq k) (keys_of es) then e.0 ∷ keys_of es else e.0 ∷ (keys_of es ++ k ∷ []))
    by_head true more = refl
    by_head false more = ap (λ t. e.0 ∷ t) more ∙ by_rest (list_any (key_eq k) (keys_of es))

no_first : (x k : TableKey) → key_eq x k ≡ true → filter (λ key. not (key_eq x key)) (k ∷ []) ≡ []
no_first x k e = ap (λ b. if not b then k ∷ [] else []) e

is_first : (x k : TableKey) → key_eq x k ≡ false → filter (λ key. not (key_eq x key)) (k ∷ []) ≡ k ∷ []
is_first x k e = ap (λ b. if not b then k ∷ [] else []) e

filter_if : (x k : TableKey) (b : Bool) (ks : List TableKey) → filter (λ key. not (key_eq x key)) (if b then ks else ks ++ k ∷ []) ≡ (if b then filter (λ key. not (key_eq x key)) ks else filter (λ key. not (key_eq x key)) ks ++ filter (λ key. not (key_eq x key)) (k ∷ []))
filter_if x k true ks = refl
filter_if x k false ks = filter-append (λ key. not (key_eq x key)) ks (k ∷ [])

first-more : (es : List Entry) (e : Entry) → first_keys (es ++ e ∷ []) ≡ with_key (first_keys es) e.0
unfolding with_key
first-more [] e = refl
first-more (x ∷ es) e =
    ap (λ t. x.0 ∷ filter p t) (first-more es e)
    ∙ ap (λ t. x.0 ∷ t) (filter_if x.0 e.0 (list_any (key_eq e.0) ks) ks)
    ∙ by_head (key_eq e.0 x.0) refl
  where
    ks : List TableKey
    ks = first_keys es

    p : TableKey → Bool
    p = λ key. not (key_eq x.0 key)

    by_any : (b c : Bool) → c ≡ b → x.0 ∷ (if b then filter p ks else filter p ks ++ e.0 ∷ []) ≡ (if c then x.0 ∷ filter p ks else x.0 ∷ (filter p ks ++ e.0 ∷ []))
    by_any true c f = sym (if_true c (x.0 ∷ filter p ks) (x.0 ∷ (filter p ks ++ e.0 ∷ [])) f)
    by_any false c f = sym (if_false c (x.0 ∷ filter p ks) (x.0 ∷ (filter p ks ++ e.0 ∷ [])) f)

    none_more : (b : Bool) → (if b then filter p ks else filter p ks ++ []) ≡ filter p ks
    none_more true = refl
    none_more false = append-nil (filter p ks)

    by_head : (b : Bool) → key_eq e.0 x.0 ≡ b →
        x.0 ∷ (if list_any (key_eq e.0) ks then filter p ks else filter p ks ++ filter p (e.0 ∷ []))
        ≡ (if b || list_any (key_eq e.0) (filter p ks) then x.0 ∷ filter p ks else x.0 ∷ (filter p ks ++ e.0 ∷ []))
    by_head true is =
        ap (λ t. x.0 ∷ (if list_any (key_eq e.0) ks then filter p ks else filter p ks ++ t)) (no_first x.0 e.0 (turned e.0 x.0 true is))
        ∙ ap (λ t. x.0 ∷ t) (none_more (list_any (key_eq e.0) ks))
    by_head false is =
        ap (λ t. x.0 ∷ (if list_any (key_eq e.0) ks then filter p ks else filter p ks ++ t)) (is_first x.0 e.0 (turned e.0 x.0 false is))
        ∙ by_any (list_any (key_eq e.0) ks) (list_any (key_eq e.0) (filter p ks))
        (any-filter_same (key_eq e.0) p true (λ k same. ap not (ap (key_eq x.0) (sym (key-same e.0 k same)) ∙ turned e.0 x.0 false is)) ks)

-- The tables.

two_keys : {X : Type 0} (b c : Bool) (p q x y : X) → (b ≡ true → c ≡ true → true ≡ false) → x ≡ (if c then q else y) → (if b then p else x) ≡ (if c then q else (if b then p else y))
two_keys true true p q x y no_both more = never (no_both refl refl)
  where
    never : true ≡ false → p ≡ q
    never e = cc
two_keys true false p q x y no_both more = refl
two_keys false c p q x y no_both more = more

one_key : {X : Type 0} (b c : Bool) (p q y : X) → c ≡ b → (if b then q else y) ≡ (if c then q else (if b then p else y))
one_key true c p q y e = sym (if_true c q p e)
one_key false c p q y e = sym (if_false c q y e)

looked-up : (es : List Entry) (k : TableKey) (v : List (List ℕ)) (key : TableKey) → lookup (key_eq key) (insert_entry key_eq es k v) ≡ (if key_eq key k then Some v else lookup (key_eq key) es)
looked-up [] k v key = refl
looked-up (e ∷ es) k v key = by_head (key_eq k e.0) refl (looked-up es k v key)
  where
    by_head : (b : Bool) → key_eq k e.0 ≡ b → lookup (key_eq key) (insert_entry key_eq es k v) ≡ (if key_eq key k then Some v else lookup (key_eq key) es) →
        lookup (key_eq key) (if b then (e.0, v) ∷ es else e ∷ insert_entry key_eq es k v) ≡ (if key_eq key k then Some v else (if key_eq key e.0 then Some e.1 else lookup (key_eq key) es))
    by_head true is more = one_key (key_eq key e.0) (key_eq key k) (Some e.1) (Some v) (lookup (key_eq key) es) (ap (key_eq key) (key-same k e.0 is))
    by_head false is more =
        two_keys (key_eq key e.0) (key_eq key k) (Some e.1) (Some v) (lookup (key_eq key) (insert_entry key_eq es k v)) (lookup (key_eq key) es)
        (λ p q. sym (ap (λ t. key_eq t e.0) (sym (key-same key k q)) ∙ p) ∙ is) more

or_if : {X : Type 0} (b c : Bool) (p q : X) (o : Option X) → option_or (if b then Some p else o) (if c then Some q else None) ≡ (if b then Some p else option_or o (if c then Some q else None))
or_if true c p q o = refl
or_if false c p q o = refl

last-more : (es : List Entry) (e : Entry) (key : TableKey) → last_of (es ++ e ∷ []) key ≡ (if key_eq key e.0 then Some e.1 else last_of es key)
last-more [] e key = refl
last-more (x ∷ es) e key =
    ap (λ o. option_or o (if key_eq key x.0 then Some x.1 else None)) (last-more es e key) ∙ or_if (key_eq key e.0) (key_eq key x.0) e.1 x.1 (last_of es key)

-- Both, one table after another.

-- entries, and the tables under their keys of which they are the last
abbrev Of : List Entry → List Entry → Type 0
Of entries es = (keys_of entries ≡ first_keys es) × ((key : TableKey) → lookup (key_eq key) entries ≡ last_of es key)

of-more : (entries es : List Entry) (e : Entry) → Of entries es → Of (insert_entry key_eq entries e.0 e.1) (es ++ e ∷ [])
unfolding with_key
of-more entries es e of = (
  keys-inserted entries e.0 e.1 ∙ ap (λ ks. with_key ks e.0) of.0 ∙ sym (first-more es e),
  λ key. looked-up entries e.0 e.1 key ∙ ap (λ o. if key_eq key e.0 then Some e.1 else o) (of.1 key) ∙ sym (last-more es e key),
)

of-table : (entries : List Entry) (before : List (List (List ℕ))) (t : List (List ℕ)) (key : Option TableKey) → key_of_table t ≡ key →
    Of entries (filter_map entry_of before) → Of (with_entry entries t key) (filter_map entry_of before ++ filter_map entry_of (t ∷ []))
of-table entries before t None e of =
    subst (Of entries) (sym (ap (λ k. filter_map entry_of before ++ filter_map (λ x. entry_under x k) (t ∷ [])) e ∙ append-nil (filter_map entry_of before))) of
of-table entries before t (Some key) e of =
    subst (Of (insert_entry key_eq entries key t)) (sym (ap (λ k. filter_map entry_of before ++ filter_map (λ x. entry_under x k) (t ∷ [])) e)) (of-more entries (filter_map entry_of before) (key, t) of)

of-all : (entries : List Entry) (before ts : List (List (List ℕ))) → Of entries (filter_map entry_of before) → Of (fold with_table entries ts) (filter_map entry_of (before ++ ts))
of-all entries before [] of = subst (λ b. Of entries (filter_map entry_of b)) (sym (append-nil before)) of
of-all entries before (t ∷ ts) of =
    subst (λ b. Of (fold with_table (with_table entries t) ts) (filter_map entry_of b)) (append_assoc before (t ∷ []) ts)
    (of-all (with_table entries t) (before ++ t ∷ []) ts
    (subst (Of (with_table entries t)) (sym (filter_map-append entry_of before (t ∷ []))) (of-table entries before t (key_of_table t) refl of)))

-- the entries that are kept have the keys in the order in which they were first complete, each with its last table
pub are-last : (tables : List (List (List ℕ))) → AreLast (entries_of tables) tables
unfolding entries_of
are-last tables = (let of = of-all [] [] tables (refl, λ key. refl) in record { keys = of.0; values = of.1 })
