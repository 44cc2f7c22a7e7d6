-- The greatest of numbers of which some may be missing.
use Rattle.std.proofs.Common.{◌≡◌, ℕ, max, ◌≤◌, List, [], ◌∷◌, map, Option, Some, None, refl, ap, sym, ◌∙◌, arith}
use Rattle.std.specs.List.{AllByRecursion}
use Rattle.chain_model.specs.Joint.{greatest_with, greatest_if_all}

-- the number at `u` is known and at most `limit`
abbrev pub IsKnownWithin : (ℕ → Option ℕ) → ℕ → ℕ → Type 0
IsKnownWithin f limit u = (n : ℕ) × (f u ≡ Some n) × (n ≤ limit)

-- what is known by `f` at `u` is known by `g` too
abbrev pub IsKept : (ℕ → Option ℕ) → (ℕ → Option ℕ) → ℕ → Type 0
IsKept f g u = (n : ℕ) → f u ≡ Some n → g u ≡ Some n

-- what `g` alone knows at `u` is at least `m`
abbrev pub IsNewFrom : (ℕ → Option ℕ) → (ℕ → Option ℕ) → ℕ → ℕ → Type 0
IsNewFrom f g m u = (n : ℕ) → f u ≡ None → g u ≡ Some n → m ≤ n

greatest_with-all : (f : ℕ → Option ℕ) (n : ℕ) (us : List ℕ) (limit : ℕ) → greatest_with n (map f us) ≡ Some limit → (n ≤ limit) × AllByRecursion (IsKnownWithin f limit) us
greatest_with-all f n [] limit e =
    let same : n ≡ limit = cc in (omega arith, tt)
greatest_with-all f n (u ∷ us) limit e =
    elim (f u) as (λ o. f u ≡ o → greatest_with n (o ∷ map f us) ≡ Some limit → (n ≤ limit) × AllByRecursion (IsKnownWithin f limit) (u ∷ us)) [
      | None ↦ (λ is h. absurd cc)
      | Some m ↦ (λ is h. let s = greatest_with-all f (max n m) us limit h in let le : max n m ≤ limit = s.0 in (omega arith, ((m, is, omega arith), s.1)))
    ] refl e

-- each of the numbers is known, and at most their greatest
pub greatest-all : (f : ℕ → Option ℕ) (us : List ℕ) (limit : ℕ) → greatest_if_all (map f us) ≡ Some limit → AllByRecursion (IsKnownWithin f limit) us
greatest-all f [] limit e = absurd cc
greatest-all f (u ∷ us) limit e =
    elim (f u) as (λ o. f u ≡ o → greatest_if_all (o ∷ map f us) ≡ Some limit → AllByRecursion (IsKnownWithin f limit) (u ∷ us)) [
      | None ↦ (λ is h. absurd cc)
      | Some m ↦ (λ is h. let s = greatest_with-all f m us limit h in ((m, is, s.0), s.1))
    ] refl e

greatest_with-kept : (f g : ℕ → Option ℕ) (n : ℕ) (us : List ℕ) (limit : ℕ) → AllByRecursion (IsKept f g) us → greatest_with n (map f us) ≡ Some limit → greatest_with n (map g us) ≡ Some limit
greatest_with-kept f g n [] limit kept e = e
greatest_with-kept f g n (u ∷ us) limit kept e =
    elim (f u) as (λ o. f u ≡ o → greatest_with n (o ∷ map f us) ≡ Some limit → greatest_with n (g u ∷ map g us) ≡ Some limit) [
      | None ↦ (λ is h. absurd cc)
      | Some m ↦ (λ is h. ap (λ (o : Option ℕ). greatest_with n (o ∷ map g us)) (kept.0 m is) ∙ greatest_with-kept f g (max n m) us limit kept.1 h)
    ] refl e

-- where `g` knows all that `f` knows, the greatest stays
pub greatest-kept : (f g : ℕ → Option ℕ) (us : List ℕ) (limit : ℕ) → AllByRecursion (IsKept f g) us → greatest_if_all (map f us) ≡ Some limit → greatest_if_all (map g us) ≡ Some limit
greatest-kept f g [] limit kept e = e
greatest-kept f g (u ∷ us) limit kept e =
    elim (f u) as (λ o. f u ≡ o → greatest_if_all (o ∷ map f us) ≡ Some limit → greatest_if_all (g u ∷ map g us) ≡ Some limit) [
      | None ↦ (λ is h. absurd cc)
      | Some m ↦ (λ is h. ap (λ (o : Option ℕ). greatest_if_all (o ∷ map g us)) (kept.0 m is) ∙ greatest_with-kept f g m us limit kept.1 h)
    ] refl e

greatest_with-new : (f g : ℕ → Option ℕ) (m n : ℕ) (us : List ℕ) (limit : ℕ) → AllByRecursion (IsKept f g) us → AllByRecursion (IsNewFrom f g m) us → greatest_with n (map f us) ≡ None → greatest_with n (map g us) ≡ Some limit → m ≤ limit
greatest_with-new f g m n [] limit kept fresh none e = absurd cc
greatest_with-new f g m n (u ∷ us) limit kept fresh none e =
    elim (f u) as (λ o. f u ≡ o → greatest_with n (o ∷ map f us) ≡ None → m ≤ limit) [
      | None ↦ (λ is h. let s = (greatest_with-all g n (u ∷ us) limit e).1.0 in let le : m ≤ s.0 = fresh.0 s.0 is s.1 in omega arith)
      | Some x ↦ (λ is h. greatest_with-new f g m (max n x) us limit kept.1 fresh.1 h (ap (λ (o : Option ℕ). greatest_with n (o ∷ map g us)) (sym (kept.0 x is)) ∙ e))
    ] refl none

-- where the greatest becomes known by `g` alone, it is at least what `g` alone knows
pub greatest-new : (f g : ℕ → Option ℕ) (m : ℕ) (us : List ℕ) (limit : ℕ) → AllByRecursion (IsKept f g) us → AllByRecursion (IsNewFrom f g m) us → greatest_if_all (map f us) ≡ None → greatest_if_all (map g us) ≡ Some limit → m ≤ limit
greatest-new f g m [] limit kept fresh none e = absurd cc
greatest-new f g m (u ∷ us) limit kept fresh none e =
    elim (f u) as (λ o. f u ≡ o → greatest_if_all (o ∷ map f us) ≡ None → m ≤ limit) [
      | None ↦ (λ is h. let s = (greatest-all g (u ∷ us) limit e).0 in let le : m ≤ s.0 = fresh.0 s.0 is s.1 in omega arith)
      | Some x ↦ (λ is h. greatest_with-new f g m x us limit kept.1 fresh.1 h (ap (λ (o : Option ℕ). greatest_if_all (o ∷ map g us)) (sym (kept.0 x is)) ∙ e))
    ] refl none
