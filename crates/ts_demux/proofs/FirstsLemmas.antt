-- The first sections by number, as sections come.
use Rattle.std.proofs.Common.{◌≡◌, ℕ, ◌+◌, ◌<◌, ◌≤◌, Bool, true, false, ◌==◌, List, [], ◌∷◌, ◌++◌, length, get_or, set, map, replicate, zero, suc, Option, Some, None, is_some, find, refl, sym, ◌∙◌, ap, arith, cond, inl, inr}
use Rattle.std.specs.List.{list_all, range_with_len}
use Rattle.std.proofs.lemmas.Bool.Decides.{nat_tests}
use Rattle.ts_section.specs.SectionFields.{number_of}
use Rattle.ts_demux.proofs.Choice.{if_true, if_false, true_or_false}
use Rattle.ts_demux.specs.Firsts.{or_this, with_first}
use Rattle.ts_demux.specs.Tables.{first_numbered, firsts, is_complete}

module _ {X : Type 0} where
  pub with_first-set : (place : ℕ) (x : X) (xs : List (Option X)) (d : Option X) → place < length xs → is_some (get_or xs place d) ≡ false → set xs place (Some x) ≡ with_first place x xs
  with_first-set place x [] d h e = absurd (omega arith)
  with_first-set zero x (None ∷ xs) d h e = refl
  with_first-set zero x (Some y ∷ xs) d h e = cc
  with_first-set (suc place) x (y ∷ xs) d h e = ap (λ t. y ∷ t) (with_first-set place x xs d (omega arith) e)

  pub with_first-kept : (place : ℕ) (x : X) (xs : List (Option X)) (d : Option X) → is_some (get_or xs place d) ≡ true → xs ≡ with_first place x xs
  with_first-kept place x [] d e = refl
  with_first-kept zero x (None ∷ xs) d e = cc
  with_first-kept zero x (Some y ∷ xs) d e = refl
  with_first-kept (suc place) x (y ∷ xs) d e = ap (λ t. y ∷ t) (with_first-kept place x xs d e)

  pub with_first-past : (place : ℕ) (x : X) (xs : List (Option X)) → length xs ≤ place → xs ≡ with_first place x xs
  with_first-past place x [] h = refl
  with_first-past zero x (y ∷ xs) h = absurd (omega arith)
  with_first-past (suc place) x (y ∷ xs) h = ap (λ t. y ∷ t) (with_first-past place x xs (omega arith))

  -- what was there stays there
  pub all_there-with_first : (place : ℕ) (x : X) (xs : List (Option X)) → list_all is_some xs ≡ true → list_all is_some (with_first place x xs) ≡ true
  all_there-with_first place x [] e = refl
  all_there-with_first zero x (None ∷ xs) e = cc
  all_there-with_first zero x (Some y ∷ xs) e = e
  all_there-with_first (suc place) x (None ∷ xs) e = cc
  all_there-with_first (suc place) x (Some y ∷ xs) e = all_there-with_first place x xs e

  -- the first that passes, with one more at the end
  pub find-push : (test : X → Bool) (xs : List X) (x : X) → test x ≡ true → find test (xs ++ x ∷ []) ≡ or_this (find test xs) x
  find-push test [] x e = if_true (test x) (Some x) None e
  find-push test (y ∷ xs) x e =
      elim (true_or_false (test y)) as (λ _. find test ((y ∷ xs) ++ x ∷ []) ≡ or_this (find test (y ∷ xs)) x) [
        | inl t ↦ if_true (test y) (Some y) (find test (xs ++ x ∷ [])) t ∙ ap (λ o. or_this o x) (sym (if_true (test y) (Some y) (find test xs) t))
        | inr f ↦ if_false (test y) (Some y) (find test (xs ++ x ∷ [])) f ∙ find-push test xs x e ∙ ap (λ o. or_this o x) (sym (if_false (test y) (Some y) (find test xs) f))
      ]

  pub find-push_other : (test : X → Bool) (xs : List X) (x : X) → test x ≡ false → find test (xs ++ x ∷ []) ≡ find test xs
  find-push_other test [] x e = if_false (test x) (Some x) None e
  find-push_other test (y ∷ xs) x e = ap (λ o. cond (test y) (Some y) o) (find-push_other test xs x e)

  -- a table of places, where one place has one more
  maps_same : (f g : ℕ → Option X) (a n : ℕ) → ((i : ℕ) → a ≤ i → f i ≡ g i) → map f (range_with_len a n) ≡ map g (range_with_len a n)
  maps_same f g a zero h = refl
  maps_same f g a (suc n) h =
      let head = h a (omega arith) in
      let tail = maps_same f g (a + 1) n (λ i l. h i (omega arith)) in
      rw (head, tail) refl

  pub map-with_first :
      (f g : ℕ → Option X) (x : X) (a n m k : ℕ) → k ≡ a + m → f k ≡ or_this (g k) x →
      ((i : ℕ) → (i ≡ k → ⊥) → f i ≡ g i) →
      map f (range_with_len a n) ≡ with_first m x (map g (range_with_len a n))
  map-with_first f g x a zero m k e h others = refl
  map-with_first f g x a (suc n) zero k e h others =
      let same : k ≡ a = omega arith in
      let head : f a ≡ or_this (g a) x = rw same at h in
      let tail = maps_same f g (a + 1) n (λ i l. others i (λ w. omega arith)) in
      rw (head, tail) refl
  map-with_first f g x a (suc n) (suc m) k e h others =
      let head = others a (λ w. omega arith) in
      let tail = map-with_first f g x (a + 1) n m k (omega arith) h others in
      rw (head, tail) refl

number_test : (x : List ℕ) (n : ℕ) → (n ≡ number_of x → ⊥) → (number_of x == n) ≡ false
number_test x n h = grind (arith, nat_tests)

number_same : (x : List ℕ) → (number_of x == number_of x) ≡ true
number_same x = grind (arith, nat_tests)

-- a section more in an era is kept at its number, if none is there before it
pub firsts-push : (last : ℕ) (era : List (List ℕ)) (s : List ℕ) → firsts last (era ++ s ∷ []) ≡ with_first (number_of s) s (firsts last era)
unfolding firsts
firsts-push last era s =
    map-with_first (first_numbered (era ++ s ∷ [])) (first_numbered era) s 0 (last + 1) (number_of s) (number_of s) (omega arith)
    (find-push (λ x. number_of x == number_of s) era s (number_same s))
    (λ i other. find-push_other (λ x. number_of x == i) era s (number_test s i other))

map-none : (a n : ℕ) → map (first_numbered []) (range_with_len a n) ≡ replicate n None
map-none a zero = refl
map-none a (suc n) = ap (λ t. None ∷ t) (map-none (a + 1) n)

pub firsts-nil : (last : ℕ) → firsts last [] ≡ replicate (last + 1) None
unfolding firsts
firsts-nil last = map-none 0 (last + 1)

pub is_complete-nil : (last : ℕ) → is_complete last [] ≡ false
is_complete-nil last =
    let e : last + 1 ≡ suc last = omega arith in
    ap (list_all is_some) (firsts-nil last ∙ ap (λ n. replicate n None) e)

pub is_complete-push : (last : ℕ) (era : List (List ℕ)) (s : List ℕ) → is_complete last era ≡ true → is_complete last (era ++ s ∷ []) ≡ true
is_complete-push last era s e = ap (list_all is_some) (firsts-push last era s) ∙ all_there-with_first (number_of s) s (firsts last era) e
