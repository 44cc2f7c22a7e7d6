-- Several rows as one.
use Rattle.std.proofs.Common.{◌≡◌, ℕ, zero, suc, ◌<◌, ◌≤◌, List, [], ◌∷◌, ◌++◌, Bool, true, false, nat_lt, if◌then◌else◌, refl, ap, sym, ◌∙◌, arith, append-nil, lt-ltb, le-ltb}
use Rattle.chain_rounds.specs.Merged.{into, merged, row, AllAt, AreRows, all_merged, members_at}

-- all members are before the position
abbrev AllBefore : {N : Type 0} → (N → ℕ) → ℕ → List N → Type 0
AllBefore at p [] = Unit {0}
AllBefore at p (x ∷ xs) = (at x < p) × AllBefore at p xs

module _ {N : Type 0} (at : N → ℕ) where
  before-append : (p : ℕ) (xs ys : List N) → AllBefore at p xs → AllBefore at p ys → AllBefore at p (xs ++ ys)
  before-append p [] ys a b = b
  before-append p (x ∷ xs) ys a b = (a.0, before-append p xs ys a.1 b)

  before-more : (p q : ℕ) (xs : List N) → p ≤ q → AllBefore at p xs → AllBefore at q xs
  before-more p q [] le a = tt
  before-more p q (x ∷ xs) le a = (omega (arith, a.0), before-more p q xs le a.1)

  at-before : (p q : ℕ) (xs : List N) → p < q → AllAt at p xs → AllBefore at q xs
  at-before p q [] lt a = tt
  at-before p q (x ∷ xs) lt a = (omega (arith, a.0), at-before p q xs lt a.1)

  at-append : (p : ℕ) (xs ys : List N) → AllAt at p xs → AllAt at p ys → AllAt at p (xs ++ ys)
  at-append p [] ys a b = b
  at-append p (x ∷ xs) ys a b = (a.0, at-append p xs ys a.1 b)

  row-before : (f : ℕ → List N) → ((p : ℕ) → AllAt at p (f p)) → (m : ℕ) → AllBefore at m (row f m)
  row-before f is zero = tt
  row-before f is (suc p) =
      before-append (suc p) (row f p) (f p) (before-more p (suc p) (row f p) (omega arith) (row-before f is p)) (at-before p (suc p) (f p) (omega arith) (is p))

  merged-nil : (xs : List N) → merged at xs [] ≡ xs
  merged-nil [] = refl
  merged-nil (x ∷ xs) = ap (λ (rest : List N). x ∷ rest) (merged-nil xs)

  -- two rows at one position
  merged-level : (p : ℕ) (xs ys : List N) → AllAt at p xs → AllAt at p ys → merged at xs ys ≡ xs ++ ys
  merged-level p [] ys a b = refl
  merged-level p (x ∷ xs) [] a b = ap (λ (rest : List N). x ∷ rest) (merged-nil xs ∙ sym (append-nil xs))
  merged-level p (x ∷ xs) (y ∷ ys) a b =
      ap (λ (t : Bool). if t then y ∷ into at x (merged at xs) ys else x ∷ merged at xs (y ∷ ys)) (le-ltb (at y) (at x) (omega (arith, a.0, b.0)))
      ∙ ap (λ (rest : List N). x ∷ rest) (merged-level p xs (y ∷ ys) a.1 b)

  -- what is before the position comes first
  merged-late : (p : ℕ) (x : N) (xs ys zs : List N) → at x ≡ p → AllBefore at p ys → merged at (x ∷ xs) (ys ++ zs) ≡ ys ++ merged at (x ∷ xs) zs
  merged-late p x xs [] zs e b = refl
  merged-late p x xs (y ∷ ys) zs e b =
      ap (λ (t : Bool). if t then y ∷ into at x (merged at xs) (ys ++ zs) else x ∷ merged at xs (y ∷ (ys ++ zs))) (lt-ltb (at y) (at x) (omega (arith, e, b.0)))
      ∙ ap (λ (rest : List N). y ∷ rest) (merged-late p x xs ys zs e b.1)

  merged-first : (p : ℕ) (late ys zs : List N) → AllAt at p late → AllBefore at p ys → AllAt at p zs → merged at late (ys ++ zs) ≡ ys ++ (late ++ zs)
  merged-first p [] ys zs a b c = refl
  merged-first p (x ∷ xs) ys zs a b c =
      merged-late p x xs ys zs a.0 b ∙ ap (λ (rest : List N). ys ++ rest) (merged-level p (x ∷ xs) zs a c)

  -- one position more
  module _ (p : ℕ) (late later : List N) (a : AllAt at p late) (b : AllAt at p later) where
    into-more : (x : N) (xs : List N) → at x < p → ((ys : List N) → AllBefore at p ys → merged at (xs ++ late) (ys ++ later) ≡ merged at xs ys ++ (late ++ later))
        → (ys : List N) → AllBefore at p ys → into at x (merged at (xs ++ late)) (ys ++ later) ≡ into at x (merged at xs) ys ++ (late ++ later)
    into-more x xs lt each [] before = into-last later b refl
      where
        into-last : (zs : List N) → AllAt at p zs → zs ≡ later → into at x (merged at (xs ++ late)) zs ≡ (x ∷ merged at xs []) ++ (late ++ later)
        into-last [] c e = ap (λ (ws : List N). x ∷ merged at (xs ++ late) ws) e ∙ ap (λ (rest : List N). x ∷ rest) (each [] tt)
        into-last (z ∷ zs) c e =
            ap (λ (t : Bool). if t then z ∷ into at x (merged at (xs ++ late)) zs else x ∷ merged at (xs ++ late) (z ∷ zs)) (le-ltb (at z) (at x) (omega (arith, lt, c.0)))
            ∙ (ap (λ (ws : List N). x ∷ merged at (xs ++ late) ws) e
            ∙ ap (λ (rest : List N). x ∷ rest) (each [] tt))
    into-more x xs lt each (y ∷ ys) before =
        elim (nat_lt (at y) (at x)) as (λ t. (if t then y ∷ into at x (merged at (xs ++ late)) (ys ++ later) else x ∷ merged at (xs ++ late) (y ∷ (ys ++ later))) ≡ (if t then y ∷ into at x (merged at xs) ys else x ∷ merged at xs (y ∷ ys)) ++ (late ++ later)) [
          | true ↦ ap (λ (rest : List N). y ∷ rest) (into-more x xs lt each ys before.1)
          | false ↦ ap (λ (rest : List N). x ∷ rest) (each (y ∷ ys) before)
        ]

    merged-more : (xs ys : List N) → AllBefore at p xs → AllBefore at p ys → merged at (xs ++ late) (ys ++ later) ≡ merged at xs ys ++ (late ++ later)
    merged-more [] ys c d = merged-first p late ys later a d b
    merged-more (x ∷ xs) ys c d = into-more x xs c.0 (λ zs e. merged-more xs zs c.1 e) ys d

  two-rows : (f g : ℕ → List N) → ((p : ℕ) → AllAt at p (f p)) → ((p : ℕ) → AllAt at p (g p)) → (m : ℕ) → merged at (row f m) (row g m) ≡ row (λ p. f p ++ g p) m
  two-rows f g is js zero = refl
  two-rows f g is js (suc p) =
      merged-more p (f p) (g p) (is p) (js p) (row f p) (row g p) (row-before f is p) (row-before g js p)
      ∙ ap (λ (rest : List N). rest ++ (f p ++ g p)) (two-rows f g is js p)

  members-at : (fs : List (ℕ → List N)) → AreRows at fs → (p : ℕ) → AllAt at p (members_at fs p)
  members-at [] is p = tt
  members-at (f ∷ fs) is p = at-append p (f p) (members_at fs p) (is.0 p) (members-at fs is.1 p)

  no-row : (m : ℕ) → [] ≡ row (members_at {N = N} []) m
  no-row zero = refl
  no-row (suc p) = no-row p ∙ sym (append-nil (row (members_at {N = N} []) p))

  pub rows-in_order : (fs : List (ℕ → List N)) (m : ℕ) → AreRows at fs → all_merged at fs m ≡ row (members_at fs) m
  rows-in_order [] m is = no-row m
  rows-in_order (f ∷ fs) m is =
      ap (λ (others : List N). merged at (row f m) others) (rows-in_order fs m is.1)
      ∙ two-rows f (members_at fs) is.0 (members-at fs is.1) m
