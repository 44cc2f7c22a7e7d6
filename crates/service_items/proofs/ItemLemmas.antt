-- Items one after another, one item more.
use Rattle.std.proofs.Common.{◌≡◌, ℕ, ◌-◌, ◌||◌, Bool, false, List, [], ◌∷◌, ◌++◌, map, take, drop, zero, suc, refl, sym, ◌∙◌, ap, arith, append-nil, append_assoc}
use Rattle.std.specs.List.{flat_map, list_any}
use Rattle.service_items.specs.ServiceItems.{is_of_one, items_from}

-- there is none
pub items-none : (count size : ℕ) (bytes : List ℕ) → count ≡ 0 → items_from count size bytes ≡ []
unfolding items_from
items-none count size bytes e = ap (λ n. items_from n size bytes) e

-- the first one, and those behind it
pub items-more :
    (count size : ℕ) (bytes : List ℕ) → (count ≡ 0 → ⊥) → items_from count size bytes ≡ take size bytes ∷ items_from (count - 1) size (drop size bytes)
unfolding items_from
items-more zero size bytes e = absurd (e refl)
items-more (suc n) size bytes e = ap (λ k. take size bytes ∷ items_from k size (drop size bytes)) (let e : n ≡ suc n - 1 = omega arith in e)

-- the same where the first one and the bytes behind it are known
parts :
    (count size : ℕ) (bytes item rest : List ℕ) → (count ≡ 0 → ⊥) → item ≡ take size bytes → rest ≡ drop size bytes →
    items_from count size bytes ≡ item ∷ items_from (count - 1) size rest
parts count size bytes item rest more first behind =
    items-more count size bytes more ∙ ap (λ x. x ∷ items_from (count - 1) size (drop size bytes)) (sym first) ∙ ap (λ r. item ∷ items_from (count - 1) size r) (sym behind)

-- whether one of them is of one of some services
pub any-none : (services : List ℕ) (count size : ℕ) (bytes : List ℕ) → count ≡ 0 → false ≡ list_any (is_of_one services) (items_from count size bytes)
any-none services count size bytes none = sym (ap (list_any (is_of_one services)) (items-none count size bytes none))

pub any-more :
    (services : List ℕ) (count size : ℕ) (bytes item rest : List ℕ) → (count ≡ 0 → ⊥) → item ≡ take size bytes → rest ≡ drop size bytes →
    (is_of_one services item || list_any (is_of_one services) (items_from (count - 1) size rest)) ≡ list_any (is_of_one services) (items_from count size bytes)
any-more services count size bytes item rest more first behind =
    sym (ap (list_any (is_of_one services)) (parts count size bytes item rest more first behind))

-- what is left of them, behind other bytes
pub left-none : (left : List ℕ → List ℕ) (count size : ℕ) (bytes old : List ℕ) → count ≡ 0 → old ≡ old ++ flat_map left (items_from count size bytes)
left-none left count size bytes old none = sym (ap (λ items. old ++ flat_map left items) (items-none count size bytes none) ∙ append-nil old)

pub left-more :
    (left : List ℕ → List ℕ) (count size : ℕ) (bytes item rest old mid new : List ℕ) → (count ≡ 0 → ⊥) → item ≡ take size bytes → rest ≡ drop size bytes →
    mid ≡ old ++ left item → new ≡ mid ++ flat_map left (items_from (count - 1) size rest) → new ≡ old ++ flat_map left (items_from count size bytes)
left-more left count size bytes item rest old mid new more first behind e f =
    f ∙ ap (λ m. m ++ flat_map left (items_from (count - 1) size rest)) e
    ∙ append_assoc old (left item) (flat_map left (items_from (count - 1) size rest))
    ∙ ap (λ items. old ++ flat_map left items) (sym (parts count size bytes item rest more first behind))

-- a test of what is made of elements
pub any-map : {A B : Type 0} (test : B → Bool) (make : A → B) (xs : List A) → list_any (λ x. test (make x)) xs ≡ list_any test (map make xs)
any-map test make [] = refl
any-map test make (x ∷ xs) = ap (λ b. test (make x) || b) (any-map test make xs)
