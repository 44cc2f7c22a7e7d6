-- From what std parses to the numbers of `specs/Number.antt`.
use Rattle.std.proofs.Common.{◌≡◌, ◌≢◌, ◌≤◌, ◌^◌, ℕ, Bool, true, false, List, [], ◌∷◌, length, drop, Option, Some, None, Result, Ok, Err, refl, ap, sym, ◌∙◌, subst, cond, arith, nat_lt, nat_eq, get_or, codes, ◌<◌}
use Rattle.std.specs.Prelude.{IfNone, IfSome, is_some, option_and_then, if◌then◌else◌}
use Rattle.std.proofs.lemmas.Bool.{ne_eqb}
use Rattle.std.proofs.lemmas.Bool.Decides.{Decides-and, Decides-ltb, nat_tests}
use Rattle.std.specs.Bool.{Decides}
use Rattle.std.specs.Char.{digit_value}
use Rattle.std.specs.List.{list_all, starts_with}
use Rattle.std.specs.Str.{IsCharBoundary}
use Rattle.std.specs.Str.Pattern.{FindsTextPrefix, StripsPrefix}
use Rattle.std.proofs.lemmas.Str.Pattern.{starts_text}
use Rattle.std.specs.Result.{OkIff, result_ok}
use Rattle.std.specs.Str.Parse.{AllDigits, IsNumeral, ParsesUnsigned, digits_value, without_leading_plus}
use Rattle.plugin_options.specs.Number.{if_within, is_numeral, number_of, number_within, numeral}

digits_test : (radix : ℕ) (ds : List ℕ) → Decides (list_all (λ d. nat_lt (digit_value d) radix) ds) (AllDigits radix ds)
digits_test radix [] = (λ e. tt, λ h. refl)
digits_test radix (d ∷ ds) = Decides-and _ _ (Decides-ltb (digit_value d) radix) (digits_test radix ds)

numeral_test : (radix : ℕ) (ds : List ℕ) → Decides (is_numeral radix ds) (IsNumeral radix ds)
numeral_test radix ds = Decides-and _ _ (Decides-ltb 0 (length ds)) (digits_test radix ds)

is_some_numeral : (radix : ℕ) (ds : List ℕ) → IsNumeral radix ds → numeral radix ds ≡ Some (digits_value radix ds)
is_some_numeral radix ds h = ap (λ b. cond b (Some (digits_value radix ds)) None) ((numeral_test radix ds).1 h)

-- what is not a numeral of at most 64 bits has no number below 2^64
none_below : (radix : ℕ) (ds : List ℕ) → (IsNumeral radix ds × (digits_value radix ds < 2 ^ 64) → ⊥) → IfSome (numeral radix ds) (λ n. 2 ^ 64 ≤ n)
none_below radix ds never = go (is_numeral radix ds) (λ e. (numeral_test radix ds).0 e)
  where
    go : (b : Bool) → (b ≡ true → IsNumeral radix ds) → IfSome (cond b (Some (digits_value radix ds)) None) (λ n. 2 ^ 64 ≤ n)
    go false h = tt
    go true h = omega (arith, λ (lt : digits_value radix ds < 2 ^ 64). never (h refl, lt))

unsigned : {E : Type 0} (radix : ℕ) (ds : List ℕ) (r : Result ℕ E) → without_leading_plus ds ≡ ds → ParsesUnsigned 64 radix ds r → OkIff r (IsNumeral radix ds × (digits_value radix ds < 2 ^ 64)) (digits_value radix ds)
unsigned radix ds r e h = subst (λ (t : List ℕ). OkIff r (IsNumeral radix t × (digits_value radix t < 2 ^ 64)) (digits_value radix t)) e h

pub parsed_some : {E : Type 0} (radix : ℕ) (ds : List ℕ) (r : Result ℕ E) → without_leading_plus ds ≡ ds → ParsesUnsigned 64 radix ds r → IfSome (result_ok r) (λ n. numeral radix ds ≡ Some n)
parsed_some {E} radix ds (Ok n) e h = let q = unsigned {E = E} radix ds (Ok n) e h in is_some_numeral radix ds q.0.0 ∙ ap Some (sym q.1)
parsed_some {E} radix ds (Err x) e h = tt

pub parsed_none : {E : Type 0} (radix : ℕ) (ds : List ℕ) (r : Result ℕ E) → without_leading_plus ds ≡ ds → ParsesUnsigned 64 radix ds r → IfNone (result_ok r) (IfSome (numeral radix ds) (λ n. 2 ^ 64 ≤ n))
parsed_none {E} radix ds (Ok n) e h = tt
parsed_none {E} radix ds (Err x) e h = none_below radix ds (unsigned {E = E} radix ds (Err x) e h)

-- a text that does not begin with `+`
pub no_plus : (ds : List ℕ) → get_or ds 0 0 ≢ 43 → without_leading_plus ds ≡ ds
no_plus ds ne = ap (λ b. drop (cond b 1 0) ds) (ne_eqb _ _ ne)

-- ---- the sign `0x`

hexadecimal : (s : List ℕ) → true ≡ starts_with nat_eq s (codes "0x") → number_of s ≡ numeral 16 (drop 2 s)
unfolding number_of
hexadecimal s e = ap (λ b. cond b (numeral 16 (drop 2 s)) (numeral 10 s)) (sym e)

decimal : (s : List ℕ) → false ≡ starts_with nat_eq s (codes "0x") → number_of s ≡ numeral 10 s
unfolding number_of
decimal s e = ap (λ b. cond b (numeral 16 (drop 2 s)) (numeral 10 s)) (sym e)

pub after_sign : (s x : List ℕ) → StripsPrefix (FindsTextPrefix (codes "0x")) s x → number_of s ≡ numeral 16 x
after_sign s x h =
    let two : h.0 ≡ 2 = h.1.0 in
    let cut : IsCharBoundary s h.0 = subst (λ (k : ℕ). IsCharBoundary s k) (sym h.1.0) h.1.2 in
    hexadecimal s (starts_text true (codes "0x") s (h.0, h.1, cut)) ∙ ap (λ k. numeral 16 (drop k s)) (sym two) ∙ ap (numeral 16) (sym h.2)

pub without_sign : (s : List ℕ) → FindsTextPrefix (codes "0x") s None → number_of s ≡ numeral 10 s
without_sign s h = decimal s (starts_text false (codes "0x") s h)

-- ---- the range

pub within_some : (least most : ℕ) (s : List ℕ) (n : ℕ) → number_of s ≡ Some n → number_within least most s ≡ if_within least most n
unfolding number_within
within_some least most s n e = ap (option_and_then (if_within least most)) e

-- a number of 2^64 or more lies above every bound of 64 bits
pub within_none : (least most : ℕ) (s : List ℕ) → most < 2 ^ 64 → IfSome (number_of s) (λ n. 2 ^ 64 ≤ n) → number_within least most s ≡ None
unfolding number_within
within_none least most s small h = go (number_of s) h
  where
    go : (o : Option ℕ) → IfSome o (λ n. 2 ^ 64 ≤ n) → option_and_then (if_within least most) o ≡ None
    go None g = refl
    go (Some n) g = grind (arith, nat_tests)

pub if_inside : (least most n : ℕ) → least ≤ n → n ≤ most → if_within least most n ≡ Some n
if_inside least most n low high = grind (arith, nat_tests)

pub if_below : (least most n : ℕ) → n < least → if_within least most n ≡ None
if_below least most n low = grind (arith, nat_tests)

pub if_above : (least most n : ℕ) → most < n → if_within least most n ≡ None
if_above least most n high = grind (arith, nat_tests)

-- ---- digits are a number, however large

some-if : (b : Bool) (n : ℕ) → b ≡ is_some (if b then Some n else None)
some-if true n = refl
some-if false n = refl

pub numeral-some : (radix : ℕ) (ds : List ℕ) → is_numeral radix ds ≡ is_some (numeral radix ds)
numeral-some radix ds = some-if (is_numeral radix ds) (digits_value radix ds)
