-- Lemmas on bytes that are read after others, and on rows of them.
use Rattle.std.proofs.Common.{◌≡◌, ℕ, zero, suc, ◌+◌, ◌-◌, ◌*◌, ◌≤◌, List, [], ◌∷◌, ◌++◌, length, take, drop, refl, sym, ap, ◌∙◌, arith, length-take-le, length-drop, subst, Result}
use Rattle.ts_outside.specs.Source.{SourceView}
use Rattle.ts_outside.specs.declared.faults.Failed.{Failed}
use Rattle.in_place.specs.Reads.{ReadsInto}
use Rattle.std.proofs.Math.Seq.{take-append_seam}
use Rattle.ts_land.specs.Opening.{joined, rows_of}

abbrev nothing : List ℕ
nothing = []

none_of : (n : ℕ) → [] ≡ take n nothing
none_of zero = refl
none_of (suc n) = refl

take_two : (a b : ℕ) (xs : List ℕ) → take a xs ++ take b (drop a xs) ≡ take (a + b) xs
take_two zero b xs = let e : b ≡ 0 + b = omega arith in ap (λ j. take j xs) e
take_two (suc a) b [] = sym (none_of b) ∙ none_of (suc a + b)
take_two (suc a) b (x ∷ xs) =
    let e : suc (a + b) ≡ suc a + b = omega arith in
    ap (λ (ys : List ℕ). x ∷ ys) (take_two a b xs) ∙ ap (λ j. take j (x ∷ xs)) e

front_is : (h : ℕ) (xs rest : List ℕ) → length xs ≡ h → take h (xs ++ rest) ≡ xs
front_is h xs rest l = ap (λ j. take j (xs ++ rest)) (sym l) ∙ take-append_seam xs rest

no_more : (xs : List ℕ) → xs ++ [] ≡ xs
no_more [] = refl
no_more (x ∷ xs) = ap (λ (ys : List ℕ). x ∷ ys) (no_more xs)

module _ (h n u : ℕ) (room k rest now mended s more : List ℕ) (within : u ≤ h + n) (small : h ≤ length room) (long : h + n ≤ length now)
    (k_is : k ≡ take h room) (front : take h now ≡ take h (k ++ rest)) (same : take u mended ≡ take u now) (s_is : s ≡ take (h + n - u) (drop u now)) where
  pub joins : take h room ++ take n (drop h now) ≡ take u mended ++ take (h + n - u) (s ++ more)
  joins =
      let v = h + n - u in let d = length-drop u now in
      let begun : take h now ≡ take h room = front ∙ ap (λ (xs : List ℕ). take h (xs ++ rest)) k_is ∙ front_is h (take h room) rest (length-take-le h room small) in
      let all : take h room ++ take n (drop h now) ≡ take (h + n) now = ap (λ (xs : List ℕ). xs ++ take n (drop h now)) (sym begun) ∙ take_two h n now in
      let piece : length s ≡ v = ap length s_is ∙ length-take-le v (drop u now) (omega (arith, d, long, within)) in
      let end : take v (s ++ more) ≡ take v (drop u now) = front_is v s more piece ∙ s_is in
      let both : take u mended ++ take v (s ++ more) ≡ take u now ++ take v (drop u now) = ap (λ (xs : List ℕ). xs ++ take v (s ++ more)) same ∙ ap (λ (ys : List ℕ). take u now ++ ys) end in
      let sum : u + v ≡ h + n = omega (arith, within) in
      all ∙ sym (both ∙ take_two u v now ∙ ap (λ j. take j now) sum)

  pub stays : n ≡ 0 → u ≡ 0 → take (h + n - u) (s ++ more) ≡ take h room
  stays none front_none =
      let e : take h room ++ take n (drop h now) ≡ take h room = ap (λ j. take h room ++ take j (drop h now)) none ∙ no_more (take h room) in
      let f : take u mended ++ take (h + n - u) (s ++ more) ≡ take (h + n - u) (s ++ more) = ap (λ j. take j mended ++ take (h + n - u) (s ++ more)) front_none in
      sym f ∙ sym joins ∙ e

pub joined_take : (k n : ℕ) (bs : List ℕ) → k ≤ n → joined (take k (rows_of n bs)) ≡ take (k * 188) bs
joined_take zero n bs le = refl
joined_take (suc k) zero bs le = absurd (omega (arith, le))
joined_take (suc k) (suc n) bs le =
    let e : 188 + k * 188 ≡ suc k * 188 = omega arith in
    ap (λ (ys : List ℕ). take 188 bs ++ ys) (joined_take k n (drop 188 bs) (omega (arith, le))) ∙ take_two 188 (k * 188) bs ∙ ap (λ j. take j bs) e

pub whole : (xs ys : List ℕ) → length xs ≡ length ys → take (length ys) (xs ++ drop (length xs) ys) ≡ xs
whole xs ys l = front_is (length ys) xs (drop (length xs) ys) l

pub as_read : (old new : SourceView) (before packets after : List ℕ) (r x : Result ℕ Failed) → r ≡ x → ReadsInto old new before packets after x → ReadsInto old new before packets after r
as_read old new before packets after r x e p = subst (λ y. ReadsInto old new before packets after y) (sym e) p

pub as_packets : (old new : SourceView) (before xs ys after : List ℕ) (r : Result ℕ Failed) → xs ≡ ys → ReadsInto old new before ys after r → ReadsInto old new before xs after r
as_packets old new before xs ys after r e p = subst (λ zs. ReadsInto old new before zs after r) (sym e) p
