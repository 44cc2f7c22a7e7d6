-- Rows of values by PID, as they are filled from the front.
use Rattle.std.proofs.Common.{◌≡◌, ℕ, ◌+◌, ◌<◌, List, [], ◌∷◌, ◌++◌, length, take, drop, set, get_or, replicate, zero, suc, refl, sym, ◌∙◌, ap, subst, arith, below_more}
use Rattle.std.proofs.lemmas.List.{length-replicate}

pub fill-step : {X : Type 0} (i : ℕ) (v : X) (xs : List X) → i < length xs → set (replicate i v ++ drop i xs) i v ≡ replicate (suc i) v ++ drop (suc i) xs
fill-step i v [] h = absurd (omega arith)
fill-step zero v (x ∷ xs) h = refl
fill-step (suc i) v (x ∷ xs) h = ap (λ t. v ∷ t) (fill-step i v xs (let lt : i < length xs = omega arith in lt))

take-front : {X : Type 0} (xs ys : List X) (n : ℕ) → n ≡ length xs → take n (xs ++ ys) ≡ xs
take-front xs ys n e = ap (λ k. take k (xs ++ ys)) e ∙ whole xs ys
  where
    whole : {X : Type 0} (xs ys : List X) → take (length xs) (xs ++ ys) ≡ xs
    whole [] ys = refl
    whole (x ∷ xs) ys = ap (λ t. x ∷ t) (whole xs ys)

-- what was lent is filled anew
pub filled-anew : {X : Type 0} (v : X) (new rest lent items : List X) (n k : ℕ) → k ≡ length lent → new ≡ replicate (length lent) v → lent ≡ items → length items ≡ n
    → take k (new ++ rest) ≡ replicate n v
filled-anew v new rest lent items n k len filled is whole =
    take-front new rest k (len ∙ (sym (length-replicate (length lent) v) ∙ sym (ap length filled)))
    ∙ (filled ∙ ap (λ m. replicate m v) (ap length is ∙ whole))

-- where each value is the same, and so is the one of what is no PID
pub each-same : {X : Type 0} (n : ℕ) (v : X) (k : ℕ) → get_or (replicate n v) k v ≡ v
each-same zero v k = refl
each-same (suc n) v zero = refl
each-same (suc n) v (suc k) = each-same n v k

pub each-of : {X : Type 0} (n : ℕ) (v : X) (row : List X) → row ≡ replicate n v → (k : ℕ) → get_or row k v ≡ v
each-of n v row is k = ap (λ (xs : List _). get_or xs k v) is ∙ each-same n v k

get-kept : {X : Type 0} (xs : List X) (y d : X) (k : ℕ) → k < length xs → get_or (xs ++ y ∷ []) k d ≡ get_or xs k d
get-kept [] y d k lt = absurd (omega (arith, lt))
get-kept (z ∷ zs) y d zero lt = refl
get-kept (z ∷ zs) y d (suc k) lt = get-kept zs y d k (let less : k < length zs = omega (arith, lt) in less)

get-last : {X : Type 0} (xs : List X) (y d : X) → get_or (xs ++ y ∷ []) (length xs) d ≡ y
get-last [] y d = refl
get-last (z ∷ zs) y d = get-last zs y d

-- one value more, of which the fact holds
pub each-more :
    {X : Type 0} (P : ℕ → X → Type 0) (xs new : List X) (y : X) (n : ℕ) → new ≡ xs ++ y ∷ [] → length xs ≡ n → P n y →
    ((k : ℕ) (d : X) → k < n → P k (get_or xs k d)) → (k : ℕ) (d : X) → k < n + 1 → P k (get_or new k d)
each-more P xs new y n made len here so_far k d = below_more (λ k. P k (get_or new k d)) n
    (λ k lt. subst (P k) (sym (ap (λ (l : List _). get_or l k d) made ∙ get-kept xs y d k (omega (arith, lt, len)))) (so_far k d lt))
    (subst (P n) (sym (ap (λ (l : List _). get_or l n d) made ∙ (ap (λ (m : ℕ). get_or (xs ++ y ∷ []) m d) (sym len) ∙ get-last xs y d))) here)
    k
