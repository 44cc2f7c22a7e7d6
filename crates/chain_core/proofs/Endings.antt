-- Rows of endings, stage by stage: the least place, and the causes at a place.
use Rattle.std.proofs.Common.{◌≡◌, ◌≢◌, ◌⊎◌, inl, inr, ℕ, zero, suc, ◌<◌, ◌≤◌, List, [], ◌∷◌, ◌++◌, map, Bool, true, false, cond, Option, Some, None, refl, ap, sym, ◌∙◌, subst, arith}
use Rattle.std.specs.Prelude.{◌==◌, filter, find}
use Rattle.std.specs.Option.{option_or}
use Rattle.std.specs.List.{AllByRecursion, last_or}
use Rattle.std.proofs.lemmas.Bool.{cases_eq, eq-eqb, ne_eqb}
use Rattle.chain_model.specs.declared.cause.Cause.{Cause}
use Rattle.chain_model.specs.Cut.{Ending, is_until, causes_at}
use Rattle.chain_core.specs.Close.{lesser_if, least_among}

-- the endings of the stages up to one, each stage's list after those before it
abbrev pub up_to : (ℕ → List Ending) → ℕ → List Ending
up_to endings zero = endings zero
up_to endings (suc j) = up_to endings j ++ endings (suc j)

pub all-append : {X : Type 0} (P : X → Type 0) (xs ys : List X) → AllByRecursion P xs → AllByRecursion P ys → AllByRecursion P (xs ++ ys)
all-append P [] ys p q = q
all-append P (x ∷ xs) ys p q = (p.0, all-append P xs ys p.1 q)

-- some ending is at this place or before it
abbrev pub SomeWithin : ℕ → List Ending → Type 0
SomeWithin m [] = ⊥
SomeWithin m (ending ∷ rest) = (ending.at ≤ m) ⊎ SomeWithin m rest

some-left : (m : ℕ) (xs ys : List Ending) → SomeWithin m xs → SomeWithin m (xs ++ ys)
some-left m [] ys p = absurd p
some-left m (x ∷ xs) ys (inl p) = inl p
some-left m (x ∷ xs) ys (inr p) = inr (some-left m xs ys p)

some-right : (m : ℕ) (xs ys : List Ending) → SomeWithin m ys → SomeWithin m (xs ++ ys)
some-right m [] ys p = p
some-right m (x ∷ xs) ys p = inr (some-right m xs ys p)

lesser-below : (m at : ℕ) (least : Option ℕ) → ((x : ℕ) → least ≡ Some x → m ≤ x) → m ≤ at → m ≤ lesser_if least at
lesser-below m at None low le = le
lesser-below m at (Some n) low le = (let h = low n refl in omega arith)

lesser-reached : (m at : ℕ) (least : Option ℕ) → ((x : ℕ) × (least ≡ Some x) × (x ≤ m)) ⊎ (at ≤ m) → lesser_if least at ≤ m
lesser-reached m at None (inl (x, is, le)) = absurd cc
lesser-reached m at None (inr le) = le
lesser-reached m at (Some n) (inl (x, is, le)) = (let e : n ≡ x = cc in omega arith)
lesser-reached m at (Some n) (inr le) = omega arith

reached-at : (m x : ℕ) (least : Option ℕ) → ((y : ℕ) → least ≡ Some y → m ≤ y) → least ≡ Some x → x ≤ m → least ≡ Some m
reached-at m x least low is le =
    let h = low x is in let e : x ≡ m = omega arith in is ∙ ap (λ n. Some n) e

-- a number that is below none of them, and that one of them reaches, is the least
pub least-is : (m : ℕ) (least : Option ℕ) (endings : List Ending) → ((x : ℕ) → least ≡ Some x → m ≤ x) → AllByRecursion (λ (e : Ending). m ≤ e.at) endings → ((x : ℕ) × (least ≡ Some x) × (x ≤ m)) ⊎ SomeWithin m endings → least_among least endings ≡ Some m
least-is m least [] low all (inl (x, is, le)) = reached-at m x least low is le
least-is m least [] low all (inr some) = absurd some
least-is m least (e ∷ es) low all reached =
    least-is m (Some (lesser_if least e.at)) es
    (λ x is. (let h = lesser-below m e.at least low all.0 in let same : lesser_if least e.at ≡ x = cc in omega arith))
    all.1 (next reached)
  where
    next : ((x : ℕ) × (least ≡ Some x) × (x ≤ m)) ⊎ SomeWithin m (e ∷ es) → ((x : ℕ) × (Some (lesser_if least e.at) ≡ Some x) × (x ≤ m)) ⊎ SomeWithin m es
    next (inl known) = inl (lesser_if least e.at, refl, lesser-reached m e.at least (inl known))
    next (inr (inl here)) = inl (lesser_if least e.at, refl, lesser-reached m e.at least (inr here))
    next (inr (inr there)) = inr there

pub up_to-all : (P : Ending → Type 0) (endings : ℕ → List Ending) (n : ℕ) → ((k : ℕ) → k ≤ n → AllByRecursion P (endings k)) → AllByRecursion P (up_to endings n)
up_to-all P endings zero each = each 0 (omega arith)
up_to-all P endings (suc j) each =
    all-append P (up_to endings j) (endings (suc j)) (up_to-all P endings j (λ k le. each k (omega arith))) (each (suc j) (omega arith))

pub up_to-some : (m : ℕ) (endings : ℕ → List Ending) (n k : ℕ) → k ≤ n → SomeWithin m (endings k) → SomeWithin m (up_to endings n)
up_to-some m endings zero k le some =
    let e : k ≡ 0 = omega arith in subst (λ i. SomeWithin m (endings i)) e some
up_to-some m endings (suc j) k le some =
    elim (cases_eq k (suc j)) [
      | inl same ↦ some-right m (up_to endings j) (endings (suc j)) (subst (λ i. SomeWithin m (endings i)) same some)
      | inr apart ↦ some-left m (up_to endings j) (endings (suc j)) (up_to-some m endings j k (omega arith) some)
    ]

cons-cond : (b : Bool) (x : Ending) (xs : List Ending) (more : List Cause) (rest : List Ending) → map (λ (e : Ending). e.cause) rest ≡ map (λ (e : Ending). e.cause) xs ++ more → map (λ (e : Ending). e.cause) (cond b (x ∷ rest) rest) ≡ map (λ (e : Ending). e.cause) (cond b (x ∷ xs) xs) ++ more
cons-cond true x xs more rest e = ap (λ causes. x.cause ∷ causes) e
cons-cond false x xs more rest e = e

pub causes_at-append : (c : ℕ) (xs ys : List Ending) → causes_at c (xs ++ ys) ≡ causes_at c xs ++ causes_at c ys
causes_at-append c [] ys = refl
causes_at-append c (x ∷ xs) ys =
    cons-cond (x.at == c) x (filter (λ (e : Ending). e.at == c) xs) (causes_at c ys)
    (filter (λ (e : Ending). e.at == c) (xs ++ ys)) (causes_at-append c xs ys)

find-cond : (b : Bool) (x : Cause) (found rest more : Option Cause) → rest ≡ option_or found more → cond b (Some x) rest ≡ option_or (cond b (Some x) found) more
find-cond true x found rest more e = refl
find-cond false x found rest more e = e

pub find-append : (p : Cause → Bool) (xs ys : List Cause) → find p (xs ++ ys) ≡ option_or (find p xs) (find p ys)
find-append p [] ys = refl
find-append p (x ∷ xs) ys =
    find-cond (p x) x (find p xs) (find p (xs ++ ys)) (find p ys) (find-append p xs ys)

pub last_or-append : (o : Option Cause) (xs ys : List Cause) → last_or o (xs ++ ys) ≡ last_or (last_or o xs) ys
last_or-append o [] ys = refl
last_or-append o (x ∷ xs) ys = last_or-append (Some x) xs ys

-- the first plugin at this place that passed its last packet
abbrev pub until_at : ℕ → List Ending → Option Cause
until_at c endings = find is_until (causes_at c endings)

-- the last cause at this place
abbrev pub last_at : ℕ → List Ending → Option Cause
last_at c endings = last_or None (causes_at c endings)

pub until_at-more : (c : ℕ) (endings : ℕ → List Ending) (j : ℕ) → until_at c (up_to endings (suc j)) ≡ option_or (until_at c (up_to endings j)) (until_at c (endings (suc j)))
until_at-more c endings j =
    ap (find is_until) (causes_at-append c (up_to endings j) (endings (suc j))) ∙ find-append is_until (causes_at c (up_to endings j)) (causes_at c (endings (suc j)))

pub last_at-more : (c : ℕ) (endings : ℕ → List Ending) (j : ℕ) → last_at c (up_to endings (suc j)) ≡ last_or (last_at c (up_to endings j)) (causes_at c (endings (suc j)))
last_at-more c endings j =
    ap (λ (causes : List Cause). last_or None causes) (causes_at-append c (up_to endings j) (endings (suc j))) ∙ last_or-append None (causes_at c (up_to endings j)) (causes_at c (endings (suc j)))

-- where the stages' first ones are the same, those of the rows are
pub until_at-same : (c : ℕ) (f g : ℕ → List Ending) (n : ℕ) → ((k : ℕ) → k ≤ n → until_at c (f k) ≡ until_at c (g k)) → until_at c (up_to f n) ≡ until_at c (up_to g n)
until_at-same c f g zero same = same 0 (omega arith)
until_at-same c f g (suc j) same =
    until_at-more c f j ∙ (ap (λ (o : Option Cause). option_or o (until_at c (f (suc j)))) (until_at-same c f g j (λ k le. same k (omega arith)))
    ∙ (ap (λ (o : Option Cause). option_or (until_at c (up_to g j)) o) (same (suc j) (omega arith)) ∙ sym (until_at-more c g j)))

or-some : (a b : Option Cause) (x : Cause) → option_or a b ≡ Some x → (a ≡ Some x) ⊎ (b ≡ Some x)
or-some None b x e = inr e
or-some (Some y) b x e = inl e

or-none : (a b : Option Cause) → option_or a b ≡ None → (a ≡ None) × (b ≡ None)
or-none None b e = (refl, e)
or-none (Some y) b e = absurd cc

-- some stage has the first one of a row
pub until_at-some : (c : ℕ) (f : ℕ → List Ending) (n : ℕ) (x : Cause) → until_at c (up_to f n) ≡ Some x → (k : ℕ) × (k ≤ n) × (until_at c (f k) ≡ Some x)
until_at-some c f zero x e = (0, omega arith, e)
until_at-some c f (suc j) x e =
    elim (or-some (until_at c (up_to f j)) (until_at c (f (suc j))) x (sym (until_at-more c f j) ∙ e)) [
      | inl before ↦ (let s = until_at-some c f j x before in (s.0, omega (arith, s.1), s.2))
      | inr here ↦ (suc j, omega arith, here)
    ]

-- where a row has none, no stage has one
pub until_at-none : (c : ℕ) (f : ℕ → List Ending) (n : ℕ) → until_at c (up_to f n) ≡ None → (k : ℕ) → k ≤ n → until_at c (f k) ≡ None
until_at-none c f zero e k le =
    let z : k ≡ 0 = omega arith in ap (λ i. until_at c (f i)) z ∙ e
until_at-none c f (suc j) e k le =
    let both = or-none (until_at c (up_to f j)) (until_at c (f (suc j))) (sym (until_at-more c f j) ∙ e) in
    elim (cases_eq k (suc j)) [
      | inl same ↦ ap (λ i. until_at c (f i)) same ∙ both.1
      | inr apart ↦ until_at-none c f j both.0 k (omega arith)
    ]

-- a cause that is at a stage, with none after it, is the last one of the row
pub last_at-is : (c : ℕ) (f : ℕ → List Ending) (k : ℕ) (x : Cause) → causes_at c (f k) ≡ x ∷ [] → (n : ℕ) → k ≤ n → ((j : ℕ) → k < j → j ≤ n → causes_at c (f j) ≡ []) → last_at c (up_to f n) ≡ Some x
last_at-is c f k x here zero le none =
    let z : k ≡ 0 = omega arith in
    ap (λ (causes : List Cause). last_or None causes) (ap (λ i. causes_at c (f i)) (sym z) ∙ here)
last_at-is c f k x here (suc j) le none =
    last_at-more c f j ∙ elim (cases_eq k (suc j)) [
      | inl same ↦ ap (λ (causes : List Cause). last_or (last_at c (up_to f j)) causes) (ap (λ i. causes_at c (f i)) (sym same) ∙ here)
      | inr apart ↦ ap (λ (causes : List Cause). last_or (last_at c (up_to f j)) causes) (none (suc j) (omega arith) (omega arith)) ∙ last_at-is c f k x here j (omega arith) (λ i lt le'. none i lt (omega arith))
    ]

-- an ending alone, at the place or elsewhere
pub causes_at-here : (c at : ℕ) (why : Cause) → at ≡ c → causes_at c (record { at = at; cause = why } ∷ []) ≡ why ∷ []
causes_at-here c at why e =
    ap (λ (b : Bool). map (λ (e : Ending). e.cause) (cond b (record { at = at; cause = why } ∷ []) [])) (eq-eqb at c e)

pub causes_at-elsewhere : (c at : ℕ) (why : Cause) → at ≢ c → causes_at c (record { at = at; cause = why } ∷ []) ≡ []
causes_at-elsewhere c at why apart =
    ap (λ (b : Bool). map (λ (e : Ending). e.cause) (cond b (record { at = at; cause = why } ∷ []) [])) (ne_eqb at c apart)
