-- From numbers without a sign to those with one.
use Rattle.std.proofs.Common.{◌≡◌, ◌∙◌, ℕ, ℤ, pos, neg_ℤ, ◌<ℤ◌, ◌≤ℤ◌, ◌≤◌, ◌^◌, ◌⊎◌, true, false, List, codes, drop, Option, Some, None, ap, sym, subst, cond, arith, nat_eq, w64, FitsSigned, inl, inr, refl}
use Rattle.std.specs.Prelude.{IfNone, IfSome, option_and_then, option_map}
use Rattle.std.proofs.lemmas.Int.{ints}
use Rattle.std.specs.List.{starts_with}
use Rattle.std.specs.Option.{SomeIff}
use Rattle.std.specs.Str.{IsCharBoundary}
use Rattle.std.specs.Str.Pattern.{FindsTextPrefix, StripsPrefix}
use Rattle.std.proofs.lemmas.Str.Pattern.{starts_text}
use Rattle.plugin_options.specs.Number.{number_of}
use Rattle.plugin_options.specs.Signed.{if_signed_within, signed_of, signed_within}

-- ---- the sign

is_negative : (s : List ℕ) → true ≡ starts_with nat_eq s (codes "-") → signed_of s ≡ option_map (λ n. neg_ℤ (pos n)) (number_of (drop 1 s))
unfolding signed_of
is_negative s e = ap (λ b. cond b (option_map (λ n. neg_ℤ (pos n)) (number_of (drop 1 s))) (option_map pos (number_of s))) (sym e)

is_plain : (s : List ℕ) → false ≡ starts_with nat_eq s (codes "-") → signed_of s ≡ option_map pos (number_of s)
unfolding signed_of
is_plain s e = ap (λ b. cond b (option_map (λ n. neg_ℤ (pos n)) (number_of (drop 1 s))) (option_map pos (number_of s))) (sym e)

pub negative : (s x : List ℕ) → StripsPrefix (FindsTextPrefix (codes "-")) s x → signed_of s ≡ option_map (λ n. neg_ℤ (pos n)) (number_of x)
negative s x h =
    let one : h.0 ≡ 1 = h.1.0 in
    let cut : IsCharBoundary s h.0 = subst (λ (k : ℕ). IsCharBoundary s k) (sym h.1.0) h.1.2 in
    is_negative s (starts_text true (codes "-") s (h.0, h.1, cut)) ∙ ap (λ k. option_map (λ n. neg_ℤ (pos n)) (number_of (drop k s))) (sym one) ∙ ap (λ t. option_map (λ n. neg_ℤ (pos n)) (number_of t)) (sym h.2)

pub plain : (s : List ℕ) → FindsTextPrefix (codes "-") s None → signed_of s ≡ option_map pos (number_of s)
plain s h = is_plain s (starts_text false (codes "-") s h)

-- ---- 64 bits

-- a number that 64 bits with a sign do not hold
abbrev pub IsFar : ℤ → Type 0
IsFar z = (z <ℤ neg_ℤ (pos (2 ^ 63))) ⊎ (pos (2 ^ 63) ≤ℤ z)

pub is_far : (z : ℤ) → (FitsSigned w64 z → ⊥) → IsFar z
is_far z never = grind (arith, ints)

pub held_some : (z w : ℤ) (o r : Option ℤ) → o ≡ Some z → w ≡ z → SomeIff r (FitsSigned w64 w) w → IfSome r (λ v. o ≡ Some v)
held_some z w o None e same h = tt
held_some z w o (Some v) e same h = e ∙ ap Some (sym (h.1 ∙ same))

pub held_none : (z w : ℤ) (o r : Option ℤ) → o ≡ Some z → w ≡ z → SomeIff r (FitsSigned w64 w) w → IfNone r (IfSome o IsFar)
held_none z w o None e same h = rw e (is_far z (subst (λ (y : ℤ). FitsSigned w64 y → ⊥) same h))
held_none z w o (Some v) e same h = tt

-- 2^64 or more is far from 0 on either side
pub far_below : (m : Option ℕ) → IfSome m (λ n. 2 ^ 64 ≤ n) → IfSome (option_map (λ n. neg_ℤ (pos n)) m) IsFar
far_below None h = tt
far_below (Some n) h = inl (omega (arith, ints))

pub far_above : (m : Option ℕ) → IfSome m (λ n. 2 ^ 64 ≤ n) → IfSome (option_map pos m) IsFar
far_above None h = tt
far_above (Some n) h = inr (omega (arith, ints))

-- ---- the range

pub signed_some : (least most : ℤ) (s : List ℕ) (n : ℤ) → signed_of s ≡ Some n → signed_within least most s ≡ if_signed_within least most n
unfolding signed_within
signed_some least most s n e = ap (option_and_then (if_signed_within least most)) e

pub signed_none : (least most : ℤ) (s : List ℕ) → FitsSigned w64 least → FitsSigned w64 most → IfSome (signed_of s) IsFar → signed_within least most s ≡ None
unfolding signed_within
signed_none least most s low high h = go (signed_of s) h
  where
    go : (o : Option ℤ) → IfSome o IsFar → option_and_then (if_signed_within least most) o ≡ None
    go None g = refl
    go (Some n) (inl g) = grind (arith, ints)
    go (Some n) (inr g) = grind (arith, ints)

pub signed_inside : (least most n : ℤ) → least ≤ℤ n → n ≤ℤ most → if_signed_within least most n ≡ Some n
signed_inside least most n low high = grind (arith, ints)

pub signed_below : (least most n : ℤ) → n <ℤ least → if_signed_within least most n ≡ None
signed_below least most n low = grind (arith, ints)

pub signed_above : (least most n : ℤ) → most <ℤ n → if_signed_within least most n ≡ None
signed_above least most n high = grind (arith, ints)
