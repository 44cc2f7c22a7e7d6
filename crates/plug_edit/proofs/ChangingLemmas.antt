-- One thing of a list changed, over lists and what is seen of them.
use Rattle.std.proofs.Common.{◌≡◌, ◌≢◌, ℕ, zero, suc, ◌+◌, ◌<◌, ◌≤◌, Bool, true, false, List, [], ◌∷◌, ◌++◌, length, get_or, map, slice_index_or, slice_set, refl, sym, ap, ◌∙◌, subst, arith}
use Rattle.std.specs.Prelude.{find, option_map, slice_get, not, nat_lt, cond, if◌then◌else◌, Option, Some, None, MatchOption}
use Rattle.std.specs.List.{position, position_or_len}
use Rattle.std.proofs.lemmas.List.Folds.{find_at}
use Rattle.std.proofs.lemmas.List.Sums.{fails_before_first, position_or_len_is, prefix_len_stops}
use Rattle.plug_psi.proofs.KeptView.{chosen}
use Rattle.plug_edit.specs.Changing.{changed_first, changed_one}

found-step :
    {A : Type 0} (test : A → Bool) (t x : A) (xs : List A) (b : Bool) →
    (position_or_len test xs < length xs → slice_set xs (position_or_len test xs) t ≡ changed_first test (λ _. t) t xs) →
    cond (not b) (1 + position_or_len test xs) 0 < length (x ∷ xs) →
    slice_set (x ∷ xs) (cond (not b) (1 + position_or_len test xs) 0) t ≡ (if b then t ∷ xs else x ∷ changed_first test (λ _. t) t xs)
found-step test t x xs true so_far inside = refl
found-step test t x xs false so_far inside =
    let next : 1 + position_or_len test xs ≡ suc (position_or_len test xs) = omega arith in
    ap (λ n. slice_set (x ∷ xs) n t) next ∙ ap (λ l. x ∷ l) (so_far (omega (arith, inside)))

-- the first that passes is changed where it stands
pub changed_found :
    {A : Type 0} (test : A → Bool) (t : A) (xs : List A) → position_or_len test xs < length xs →
    slice_set xs (position_or_len test xs) t ≡ changed_first test (λ _. t) t xs
unfolding changed_first
changed_found test t [] inside = absurd (omega (arith, inside))
changed_found test t (x ∷ xs) inside = found-step test t x xs (test x) (changed_found test t xs) inside

none-step :
    {A : Type 0} (test : A → Bool) (change : A → A) (t x : A) (xs : List A) (b : Bool) →
    (length xs ≤ position_or_len test xs → xs ++ t ∷ [] ≡ changed_first test change t xs) →
    length (x ∷ xs) ≤ cond (not b) (1 + position_or_len test xs) 0 →
    (x ∷ xs) ++ t ∷ [] ≡ (if b then change x ∷ xs else x ∷ changed_first test change t xs)
none-step test change t x xs true so_far none = absurd (omega (arith, none))
none-step test change t x xs false so_far none = ap (λ l. x ∷ l) (so_far (omega (arith, none)))

-- where none passes, a new one comes last
pub changed_none :
    {A : Type 0} (test : A → Bool) (change : A → A) (t : A) (xs : List A) → length xs ≤ position_or_len test xs →
    xs ++ t ∷ [] ≡ changed_first test change t xs
unfolding changed_first
changed_none test change t [] none = refl
changed_none test change t (x ∷ xs) none = none-step test change t x xs (test x) (changed_none test change t xs) none

-- what is seen of a list so changed is what is seen of it, so changed
pub changed_view :
    {A B : Type 0} (view : A → B) (test : A → Bool) (test' : B → Bool) (change : A → A) (change' : B → B) (t : A) →
    ((x : A) → test x ≡ test' (view x)) → ((x : A) → view (change x) ≡ change' (view x)) → (xs : List A) →
    map view (changed_first test change t xs) ≡ changed_first test' change' (view t) (map view xs)
unfolding changed_first
changed_view view test test' change change' t same changes [] = refl
changed_view view test test' change change' t same changes (x ∷ xs) =
    chosen view (test x) (test' (view x)) (change x ∷ xs) (x ∷ changed_first test change t xs)
    (change' (view x) ∷ map view xs) (view x ∷ changed_first test' change' (view t) (map view xs))
    (same x) (ap (λ y. y ∷ map view xs) (changes x))
    (ap (λ l. view x ∷ l) (changed_view view test test' change change' t same changes xs))

position-cases :
    {A : Type 0} (test : A → Bool) (xs : List A) (inside : Bool) → nat_lt (position_or_len test xs) (length xs) ≡ inside →
    MatchOption (cond inside (Some (position_or_len test xs)) None) (length xs ≤ position_or_len test xs) (λ p. (p ≡ position_or_len test xs) × (p < length xs))
position-cases test xs true is = (refl, grind (arith, is))
position-cases test xs false is = grind (arith, is)

-- where the first place of a test is known
pub place_found :
    {A : Type 0} (test : A → Bool) (xs : List A) (place : ℕ) → Some place ≡ position test xs → (place ≡ position_or_len test xs) × (place < length xs)
place_found test xs place told =
    subst (λ o. MatchOption o (length xs ≤ position_or_len test xs) (λ p. (p ≡ position_or_len test xs) × (p < length xs))) (sym told)
    (position-cases test xs (nat_lt (position_or_len test xs) (length xs)) refl)

-- where there is none
pub place_none : {A : Type 0} (test : A → Bool) (xs : List A) → None ≡ position test xs → length xs ≤ position_or_len test xs
place_none test xs told =
    subst (λ o. MatchOption o (length xs ≤ position_or_len test xs) (λ p. (p ≡ position_or_len test xs) × (p < length xs))) (sym told)
    (position-cases test xs (nat_lt (position_or_len test xs) (length xs)) refl)

-- the thing is put there
pub changed_at :
    {A : Type 0} (test : A → Bool) (t : A) (xs : List A) (place : ℕ) → Some place ≡ position test xs →
    slice_set xs place t ≡ changed_first test (λ _. t) t xs
changed_at test t xs place told =
    let found = place_found test xs place told in
    ap (λ i. slice_set xs i t) found.0 ∙ changed_found test t xs (omega (arith, found.0, found.1))

-- where there is no place, it is put last
pub changed_last :
    {A : Type 0} (test : A → Bool) (change : A → A) (t : A) (xs : List A) → None ≡ position test xs →
    xs ++ t ∷ [] ≡ changed_first test change t xs
changed_last test change t xs told = changed_none test change t xs (place_none test xs told)

seen-step :
    {A B : Type 0} (view : A → B) (test' : B → Bool) (change' : B → B) (fresh : B) (y d x : A) (xs : List A) (p : ℕ) (b c : Bool) → b ≡ c →
    (p < length xs → view y ≡ change' (view (slice_index_or xs p d)) → map view (slice_set xs p y) ≡ changed_first test' change' fresh (map view xs)) →
    cond (not b) (1 + p) 0 < length (x ∷ xs) → view y ≡ change' (view (slice_index_or (x ∷ xs) (cond (not b) (1 + p) 0) d)) →
    map view (slice_set (x ∷ xs) (cond (not b) (1 + p) 0) y) ≡ (if c then change' (view x) ∷ map view xs else view x ∷ changed_first test' change' fresh (map view xs))
seen-step view test' change' fresh y d x xs p true true same so_far inside made = ap (λ v. v ∷ map view xs) made
seen-step view test' change' fresh y d x xs p true false same so_far inside made = cc
seen-step view test' change' fresh y d x xs p false true same so_far inside made = cc
seen-step view test' change' fresh y d x xs p false false same so_far inside made =
    let next : 1 + p ≡ suc p = omega arith in
    ap (λ n. map view (slice_set (x ∷ xs) n y)) next
    ∙ ap (λ l. view x ∷ l) (so_far (omega (arith, inside)) (made ∙ ap (λ n. change' (view (slice_index_or (x ∷ xs) n d))) next))

-- the same of what is seen of a list, where what is seen of the thing in the place is the change of what was seen there
pub changed_seen :
    {A B : Type 0} (view : A → B) (test : A → Bool) (test' : B → Bool) (change' : B → B) (fresh : B) (y d : A) → ((x : A) → test x ≡ test' (view x)) →
    (xs : List A) → position_or_len test xs < length xs → view y ≡ change' (view (slice_index_or xs (position_or_len test xs) d)) →
    map view (slice_set xs (position_or_len test xs) y) ≡ changed_first test' change' fresh (map view xs)
unfolding changed_first
changed_seen view test test' change' fresh y d same [] inside made = absurd (omega (arith, inside))
changed_seen view test test' change' fresh y d same (x ∷ xs) inside made =
    seen-step view test' change' fresh y d x xs (position_or_len test xs) (test x) (test' (view x)) (same x)
    (changed_seen view test test' change' fresh y d same xs) inside made

-- the same, where there is a place
pub changed_seen_at :
    {A B : Type 0} (view : A → B) (test : A → Bool) (test' : B → Bool) (change' : B → B) (fresh : B) (y d : A) → ((x : A) → test x ≡ test' (view x)) →
    (xs : List A) (place : ℕ) → Some place ≡ position test xs → view y ≡ change' (view (slice_index_or xs place d)) →
    map view (slice_set xs place y) ≡ changed_first test' change' fresh (map view xs)
changed_seen_at view test test' change' fresh y d same xs place told made =
    let found = place_found test xs place told in
    ap (λ i. map view (slice_set xs i y)) found.0
    ∙ changed_seen view test test' change' fresh y d same xs (omega (arith, found.0, found.1)) (made ∙ ap (λ i. change' (view (slice_index_or xs i d))) found.0)

last-step :
    {A B : Type 0} (view : A → B) (test' : B → Bool) (change' : B → B) (t x : A) (xs : List A) (p : ℕ) (b c : Bool) → b ≡ c →
    (length xs ≤ p → map view (xs ++ t ∷ []) ≡ changed_first test' change' (view t) (map view xs)) →
    length (x ∷ xs) ≤ cond (not b) (1 + p) 0 →
    map view ((x ∷ xs) ++ t ∷ []) ≡ (if c then change' (view x) ∷ map view xs else view x ∷ changed_first test' change' (view t) (map view xs))
last-step view test' change' t x xs p true c same so_far none = absurd (omega (arith, none))
last-step view test' change' t x xs p false true same so_far none = cc
last-step view test' change' t x xs p false false same so_far none = ap (λ l. view x ∷ l) (so_far (omega (arith, none)))

last-seen :
    {A B : Type 0} (view : A → B) (test : A → Bool) (test' : B → Bool) (change' : B → B) (t : A) → ((x : A) → test x ≡ test' (view x)) →
    (xs : List A) → length xs ≤ position_or_len test xs → map view (xs ++ t ∷ []) ≡ changed_first test' change' (view t) (map view xs)
unfolding changed_first
last-seen view test test' change' t same [] none = refl
last-seen view test test' change' t same (x ∷ xs) none =
    last-step view test' change' t x xs (position_or_len test xs) (test x) (test' (view x)) (same x) (last-seen view test test' change' t same xs) none

-- what is seen of a list to which a thing came last, where there is no place
pub changed_last_seen :
    {A B : Type 0} (view : A → B) (test : A → Bool) (test' : B → Bool) (change' : B → B) (t : A) → ((x : A) → test x ≡ test' (view x)) →
    (xs : List A) → None ≡ position test xs → map view (xs ++ t ∷ []) ≡ changed_first test' change' (view t) (map view xs)
changed_last_seen view test test' change' t same xs told = last-seen view test test' change' t same xs (place_none test xs told)

told-within : {A : Type 0} (test : A → Bool) (xs : List A) (b : Bool) → nat_lt (position_or_len test xs) (length xs) ≡ b → position_or_len test xs < length xs →
    Some (position_or_len test xs) ≡ cond b (Some (position_or_len test xs)) None
told-within test xs true is inside = refl
told-within test xs false is inside = absurd (grind (arith, is, inside))

-- none passed before this one, and it does
pub first_here :
    {A : Type 0} (test : A → Bool) (xs : List A) (i : ℕ) (x : A) → i < length xs → x ≡ get_or xs i x → test x ≡ true → i ≤ position_or_len test xs → Some i ≡ position test xs
first_here test xs i x inside same passes so_far =
    let here : position_or_len test xs ≡ i =
    position_or_len_is test xs i x (omega (arith, inside)) (λ k below. fails_before_first test xs k x (omega (arith, below, so_far))) (λ _. sym (ap test same) ∙ passes) in
    ap Some (sym here) ∙ told-within test xs (nat_lt (position_or_len test xs) (length xs)) refl (omega (arith, here, inside))

no-contradiction : (b : Bool) → b ≡ false → not b ≡ false → ⊥
no-contradiction true e f = cc
no-contradiction false e f = cc

-- none passed before this one, and it does not
pub first_later :
    {A : Type 0} (test : A → Bool) (xs : List A) (i : ℕ) (x : A) → i < length xs → x ≡ get_or xs i x → test x ≡ false → i ≤ position_or_len test xs → i + 1 ≤ position_or_len test xs
first_later test xs i x inside same fails so_far =
    let other : position_or_len test xs ≢ i =
    λ here. no-contradiction (test x) fails (ap (λ y. not (test y)) same ∙ ap (λ k. not (test (get_or xs k x))) (sym here) ∙ prefix_len_stops (λ y. not (test y)) xs x (omega (arith, here, inside))) in
    omega (arith, so_far, other)

within : {A : Type 0} (xs : List A) (k : ℕ) (d : A) → k < length xs → slice_get xs k ≡ Some (get_or xs k d)
within [] k d inside = absurd (omega (arith, inside))
within (x ∷ xs) zero d inside = refl
within (x ∷ xs) (suc k) d inside = within xs k d (omega (arith, inside))

beyond : {A : Type 0} (xs : List A) (k : ℕ) → length xs ≤ k → slice_get xs k ≡ None
beyond [] k past = refl
beyond (x ∷ xs) zero past = absurd (omega (arith, past))
beyond (x ∷ xs) (suc k) past = beyond xs k (omega (arith, past))

-- the first that passes is the one at that place
pub found_at : {A : Type 0} (test : A → Bool) (xs : List A) (place : ℕ) (d : A) → Some place ≡ position test xs → find test xs ≡ Some (get_or xs place d)
found_at test xs place d told =
    let found = place_found test xs place told in
    find_at test xs ∙ within xs (position_or_len test xs) d (omega (arith, found.0, found.1)) ∙ ap (λ i. Some (get_or xs i d)) (sym found.0)

-- none passes where there is no place
pub none_at : {A : Type 0} (test : A → Bool) (xs : List A) → None ≡ position test xs → find test xs ≡ None
none_at test xs told = find_at test xs ∙ beyond xs (position_or_len test xs) (place_none test xs told)

found-view : {A B : Type 0} (view : A → B) (b c : Bool) (x : A) (r : Option B) (s : Option A) → b ≡ c → r ≡ option_map view s → cond c (Some (view x)) r ≡ option_map view (cond b (Some x) s)
found-view view true true x r s same more = refl
found-view view true false x r s same more = cc
found-view view false true x r s same more = cc
found-view view false false x r s same more = more

-- the first that passes of what is seen of a list
pub find_view :
    {A B : Type 0} (view : A → B) (test : A → Bool) (test' : B → Bool) → ((x : A) → test x ≡ test' (view x)) → (xs : List A) →
    find test' (map view xs) ≡ option_map view (find test xs)
find_view view test test' same [] = refl
find_view view test test' same (x ∷ xs) =
    found-view view (test x) (test' (view x)) x (find test' (map view xs)) (find test xs) (same x) (find_view view test test' same xs)

-- ---- where no new one is added

one-step :
    {A B : Type 0} (view : A → B) (test' : B → Bool) (change' : B → B) (y d x : A) (xs : List A) (p : ℕ) (b c : Bool) → b ≡ c →
    (p < length xs → view y ≡ change' (view (slice_index_or xs p d)) → map view (slice_set xs p y) ≡ changed_one test' change' (map view xs)) →
    cond (not b) (1 + p) 0 < length (x ∷ xs) → view y ≡ change' (view (slice_index_or (x ∷ xs) (cond (not b) (1 + p) 0) d)) →
    map view (slice_set (x ∷ xs) (cond (not b) (1 + p) 0) y) ≡ (if c then change' (view x) ∷ map view xs else view x ∷ changed_one test' change' (map view xs))
one-step view test' change' y d x xs p true true same so_far inside made = ap (λ v. v ∷ map view xs) made
one-step view test' change' y d x xs p true false same so_far inside made = cc
one-step view test' change' y d x xs p false true same so_far inside made = cc
one-step view test' change' y d x xs p false false same so_far inside made =
    let next : 1 + p ≡ suc p = omega arith in
    ap (λ n. map view (slice_set (x ∷ xs) n y)) next
    ∙ ap (λ l. view x ∷ l) (so_far (omega (arith, inside)) (made ∙ ap (λ n. change' (view (slice_index_or (x ∷ xs) n d))) next))

one-seen :
    {A B : Type 0} (view : A → B) (test : A → Bool) (test' : B → Bool) (change' : B → B) (y d : A) → ((x : A) → test x ≡ test' (view x)) →
    (xs : List A) → position_or_len test xs < length xs → view y ≡ change' (view (slice_index_or xs (position_or_len test xs) d)) →
    map view (slice_set xs (position_or_len test xs) y) ≡ changed_one test' change' (map view xs)
unfolding changed_one
one-seen view test test' change' y d same [] inside made = absurd (omega (arith, inside))
one-seen view test test' change' y d same (x ∷ xs) inside made =
    one-step view test' change' y d x xs (position_or_len test xs) (test x) (test' (view x)) (same x)
    (one-seen view test test' change' y d same xs) inside made

-- what is seen of a list in which the first that passes was changed
pub one_seen_at :
    {A B : Type 0} (view : A → B) (test : A → Bool) (test' : B → Bool) (change' : B → B) (y d : A) → ((x : A) → test x ≡ test' (view x)) →
    (xs : List A) (place : ℕ) → Some place ≡ position test xs → view y ≡ change' (view (slice_index_or xs place d)) →
    map view (slice_set xs place y) ≡ changed_one test' change' (map view xs)
one_seen_at view test test' change' y d same xs place told made =
    let found = place_found test xs place told in
    ap (λ i. map view (slice_set xs i y)) found.0
    ∙ one-seen view test test' change' y d same xs (omega (arith, found.0, found.1)) (made ∙ ap (λ i. change' (view (slice_index_or xs i d))) found.0)

stays-step :
    {A B : Type 0} (view : A → B) (test' : B → Bool) (change' : B → B) (x : A) (xs : List A) (p : ℕ) (b c : Bool) → b ≡ c →
    (length xs ≤ p → map view xs ≡ changed_one test' change' (map view xs)) → length (x ∷ xs) ≤ cond (not b) (1 + p) 0 →
    map view (x ∷ xs) ≡ (if c then change' (view x) ∷ map view xs else view x ∷ changed_one test' change' (map view xs))
stays-step view test' change' x xs p true c same so_far none = absurd (omega (arith, none))
stays-step view test' change' x xs p false true same so_far none = cc
stays-step view test' change' x xs p false false same so_far none = ap (λ l. view x ∷ l) (so_far (omega (arith, none)))

stays :
    {A B : Type 0} (view : A → B) (test : A → Bool) (test' : B → Bool) (change' : B → B) → ((x : A) → test x ≡ test' (view x)) →
    (xs : List A) → length xs ≤ position_or_len test xs → map view xs ≡ changed_one test' change' (map view xs)
unfolding changed_one
stays view test test' change' same [] none = refl
stays view test test' change' same (x ∷ xs) none =
    stays-step view test' change' x xs (position_or_len test xs) (test x) (test' (view x)) (same x) (stays view test test' change' same xs) none

-- what is seen of a list in which none passes
pub stays_seen :
    {A B : Type 0} (view : A → B) (test : A → Bool) (test' : B → Bool) (change' : B → B) → ((x : A) → test x ≡ test' (view x)) →
    (xs : List A) → None ≡ position test xs → map view xs ≡ changed_one test' change' (map view xs)
stays_seen view test test' change' same xs told = stays view test test' change' same xs (place_none test xs told)

-- what is found passes the test
pub found_passes : {A : Type 0} (test : A → Bool) (xs : List A) (x : A) → find test xs ≡ Some x → test x ≡ true
found_passes test [] x e = cc
found_passes test (y ∷ ys) x e = go (test y) refl (λ f. found_passes test ys x f) e
  where
    go : (b : Bool) → test y ≡ b → (find test ys ≡ Some x → test x ≡ true) → cond b (Some y) (find test ys) ≡ Some x → test x ≡ true
    go true h later f = let same : x ≡ y = cc in ap test same ∙ h
    go false h later f = later f
