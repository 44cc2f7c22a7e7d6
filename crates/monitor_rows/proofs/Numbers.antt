-- Lemmas on the numbers below a bound that pass a test.
use Rattle.std.proofs.Common.{◌≡◌, ◌≢◌, ℕ, zero, suc, ◌+◌, ◌<◌, List, [], ◌∷◌, ◌++◌, length, filter, take, drop, ap, sym, subst, ◌∙◌, inl, inr, refl, Bool, true, false, if◌then◌else◌, append-nil, get_or as get, Option, None, Some, arith}
use Rattle.std.specs.List.{All, last_or}
use Rattle.std.proofs.Math.Seq.{drop-append_seam, take-append_seam}
use Rattle.std.proofs.lemmas.Bool.{cases_eq}
use Rattle.std.proofs.lemmas.List.Elements.{All-append, All-drop, All-head, All-nil, All-same, All-take, All-weaker, filter-append}
use Rattle.std.proofs.lemmas.List.Quantifiers.{all_pairs_push}
use Rattle.plugin_notes.specs.PidPackets.{numbers_below}
use Rattle.monitor_rows.specs.RowStands.{AreAscending}

last_or-append : {A : Type 0} (o : Option A) (xs ys : List A) → last_or o (xs ++ ys) ≡ last_or (last_or o xs) ys
last_or-append o [] ys = refl
last_or-append o (x ∷ xs) ys = last_or-append (Some x) xs ys

-- the number itself, where it passes
abbrev one : (ℕ → Bool) → ℕ → List ℕ
one f n = filter f (n ∷ [])

next : (f : ℕ → Bool) (n : ℕ) → filter f (numbers_below (suc n)) ≡ filter f (numbers_below n) ++ one f n
unfolding numbers_below
next f n = filter-append f (numbers_below n) (n ∷ [])

one-true : (f : ℕ → Bool) (n : ℕ) → f n ≡ true → one f n ≡ n ∷ []
one-true f n e = ap (λ (b : Bool). if b then n ∷ [] else []) e

one-false : (f : ℕ → Bool) (n : ℕ) → f n ≡ false → one f n ≡ []
one-false f n e = ap (λ (b : Bool). if b then n ∷ [] else []) e

-- the last one that passes
pub last_chosen : (f : ℕ → Bool) (m n : ℕ) → n < m → f n ≡ true → ((k : ℕ) → n < k → k < m → f k ≡ false) → last_or None (filter f (numbers_below m)) ≡ Some n
last_chosen f zero n less is none = absurd (omega (arith, less))
last_chosen f (suc m) n less is none =
    ap (last_or None) (next f m)
    ∙ (last_or-append None (filter f (numbers_below m)) (one f m)
    ∙ (elim (cases_eq n m) as (λ _. last_or (last_or None (filter f (numbers_below m))) (one f m) ≡ Some n) [
      | inl same ↦
          ap (last_or (last_or None (filter f (numbers_below m)))) (one-true f m (subst (λ (k : ℕ). f k ≡ true) same is))
          ∙ ap (λ (k : ℕ). let o : Option ℕ = Some k in o) (sym same)
      | inr other ↦
          ap (last_or (last_or None (filter f (numbers_below m)))) (one-false f m (none m (omega (arith, less, other)) (omega arith)))
          ∙ last_chosen f m n (omega (arith, less, other)) is (λ k after before. none k after (omega (arith, before)))
    ]))

-- those that pass are below the bound, and do
pub chosen_are : (f : ℕ → Bool) (m : ℕ) → All (λ n. (n < m) × (f n ≡ true)) (filter f (numbers_below m))
unfolding numbers_below
chosen_are f zero = All-nil (λ (n : ℕ). (n < zero) × (f n ≡ true))
chosen_are f (suc m) =
    All-same (λ n. (n < suc m) × (f n ≡ true)) (filter f (numbers_below (suc m))) (filter f (numbers_below m) ++ one f m) (next f m)
    (All-append (λ n. (n < suc m) × (f n ≡ true)) (filter f (numbers_below m)) (one f m)
    (All-weaker (λ n. (n < m) × (f n ≡ true)) (λ n. (n < suc m) × (f n ≡ true)) (λ n is. (omega (arith, is.0), is.1)) (filter f (numbers_below m)) (chosen_are f m))
    (here (f m) refl))
  where
    here : (b : Bool) → f m ≡ b → All (λ n. (n < suc m) × (f n ≡ true)) (one f m)
    here true is = All-same (λ n. (n < suc m) × (f n ≡ true)) (one f m) (m ∷ []) (one-true f m is) (λ k d less. at k d less)
      where
        at : (k d : ℕ) → k < 1 → (get (m ∷ []) k d < suc m) × (f (get (m ∷ []) k d) ≡ true)
        at zero d less = (omega arith, is)
        at (suc k) d less = absurd (omega (arith, less))
    here false is = All-same (λ n. (n < suc m) × (f n ≡ true)) (one f m) [] (one-false f m is) (All-nil (λ (n : ℕ). (n < suc m) × (f n ≡ true)))

-- they ascend
pub chosen_ascend : (f : ℕ → Bool) (m : ℕ) → AreAscending (filter f (numbers_below m))
unfolding numbers_below
chosen_ascend f zero = λ i j d before within. absurd (omega (arith, within))
chosen_ascend f (suc m) = subst AreAscending (sym (next f m)) (by_here (f m) refl (chosen_ascend f m))
  where
    by_here : (b : Bool) → f m ≡ b → AreAscending (filter f (numbers_below m)) → AreAscending (filter f (numbers_below m) ++ one f m)
    by_here true is before =
        subst (λ (ns : List ℕ). AreAscending (filter f (numbers_below m) ++ ns)) (sym (one-true f m is))
        (all_pairs_push (λ (a b : ℕ). a < b) (filter f (numbers_below m)) m before
        (λ k d less. (chosen_are f m k d less).0))
    by_here false is before =
        subst (λ (ns : List ℕ). AreAscending (filter f (numbers_below m) ++ ns)) (sym (one-false f m is))
        (subst AreAscending (sym (append-nil (filter f (numbers_below m)))) before)

-- one that is not among them does not pass
pub absent_fails : (f : ℕ → Bool) (m n : ℕ) → n < m → All (λ k. k ≢ n) (filter f (numbers_below m)) → f n ≡ false
unfolding numbers_below
absent_fails f zero n less none = absurd (omega (arith, less))
absent_fails f (suc m) n less none =
    elim (cases_eq n m) as (λ _. f n ≡ false) [
      | inl same ↦ by_here (f n) refl same
      | inr other ↦
          absent_fails f m n (omega (arith, less, other))
          (All-same (λ k. k ≢ n) (filter f (numbers_below m)) (take (length (filter f (numbers_below m))) (filter f (numbers_below m) ++ one f m))
          (sym (take-append_seam (filter f (numbers_below m)) (one f m)))
          (All-take (λ k. k ≢ n) (length (filter f (numbers_below m))) (filter f (numbers_below m) ++ one f m) parted))
    ]
  where
    parted : All (λ k. k ≢ n) (filter f (numbers_below m) ++ one f m)
    parted = All-same (λ k. k ≢ n) (filter f (numbers_below m) ++ one f m) (filter f (numbers_below (suc m))) (sym (next f m)) none

    by_here : (b : Bool) → f n ≡ b → n ≡ m → f n ≡ false
    by_here false is same = is
    by_here true is same =
        absurd (All-head (λ k. k ≢ n) m []
        (All-same (λ k. k ≢ n) (m ∷ []) (drop (length (filter f (numbers_below m))) (filter f (numbers_below m) ++ one f m))
        (sym (drop-append_seam (filter f (numbers_below m)) (one f m) ∙ one-true f m (subst (λ (k : ℕ). f k ≡ true) same is)))
        (All-drop (λ k. k ≢ n) (length (filter f (numbers_below m))) (filter f (numbers_below m) ++ one f m) parted)) (sym same))

-- two tests that agree below the bound choose the same ones
pub chosen_same : (f g : ℕ → Bool) (m : ℕ) → ((n : ℕ) → n < m → f n ≡ g n) → filter f (numbers_below m) ≡ filter g (numbers_below m)
unfolding numbers_below
chosen_same f g zero same = refl
chosen_same f g (suc m) same =
    next f m
    ∙ (ap (λ (ns : List ℕ). ns ++ one f m) (chosen_same f g m (λ n less. same n (omega (arith, less))))
    ∙ (ap (λ (b : Bool). filter g (numbers_below m) ++ (if b then m ∷ [] else [])) (same m (omega arith)) ∙ sym (next g m)))
