-- Things that are made one after another, each of one of a list.
use Rattle.std.proofs.Common.{◌≡◌, ℕ, ◌+◌, ◌<◌, Bool, true, List, [], ◌∷◌, ◌++◌, length, take, drop, get_or, map, refl, sym, ap, ◌∙◌, append_assoc}
use Rattle.std.specs.List.{list_all}
use Rattle.std.proofs.lemmas.List.{drop_more, map_push, take_more}
use Rattle.ts_json_tables.proofs.StepLemmas.{both}

-- what is made of one more
next_of : {A B : Type 0} (f : A → B) (xs : List A) (i : ℕ) (a : A) (y : B) → i < length xs → a ≡ get_or xs i a → y ≡ f a
    → map f (take i xs) ++ y ∷ [] ≡ map f (take (i + 1) xs)
next_of f xs i a y inside same is =
    ap (λ z. map f (take i xs) ++ z ∷ []) (is ∙ ap f same) ∙ sym (map_push f (take i xs) (get_or xs i a))
    ∙ sym (ap (map f) (take_more xs i a inside))

-- one more was made
pub one_more : {X A B : Type 0} (view : X → B) (f : A → B) (front : List B) (old new : List X) (x : X) (xs : List A) (i : ℕ)
    (a : A) → i < length xs → a ≡ get_or xs i a → new ≡ old ++ x ∷ [] → view x ≡ f a
    → map view old ≡ front ++ map f (take i xs) → map view new ≡ front ++ map f (take (i + 1) xs)
one_more view f front old new x xs i a inside same is made so_far =
    ap (map view) is ∙ map_push view old x ∙ ap (λ l. l ++ view x ∷ []) so_far
    ∙ append_assoc front (map f (take i xs)) (view x ∷ [])
    ∙ ap (λ l. front ++ l) (next_of f xs i a (view x) inside same made)

-- the same, where what is made is told of what the things hold
pub one_more_of : {X A B C : Type 0} (view : X → C) (g : B → C) (h : A → B) (old new : List X) (x : X) (xs : List A)
    (i : ℕ) (a : A) → i < length xs → a ≡ get_or xs i a → new ≡ old ++ x ∷ [] → view x ≡ g (h a)
    → map view old ≡ map g (map h (take i xs)) → map view new ≡ map g (map h (take (i + 1) xs))
one_more_of view g h old new x xs i a inside same is made so_far =
    ap (map view) is ∙ map_push view old x ∙ ap (λ l. l ++ view x ∷ []) so_far
    ∙ ap (λ z. map g (map h (take i xs)) ++ z ∷ []) made ∙ sym (map_push g (map h (take i xs)) (h a))
    ∙ ap (map g) (next_of h xs i a (h a) inside same refl)

-- a test that all things from a place on pass is passed by the one at the place, and by those after it
pub here_and_after : {A B : Type 0} (t : B → Bool) (h : A → B) (xs : List A) (i : ℕ) (a : A) → i < length xs
    → a ≡ get_or xs i a → list_all t (map h (drop i xs)) ≡ true
    → (t (h a) ≡ true) × (list_all t (map h (drop (i + 1) xs)) ≡ true)
here_and_after t h xs i a inside same all =
    let parts = both (t (h (get_or xs i a))) (list_all t (map h (drop (i + 1) xs))) (rw (drop_more xs i a inside) at all) in
    (ap (λ y. t (h y)) same ∙ parts.0, parts.1)
