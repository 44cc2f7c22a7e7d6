-- Texts of numbers, and numbers of 64 bits.
use Rattle.std.proofs.Common.{◌≡◌, ◌≢◌, ◌≤◌, ◌^◌, ◌<◌, ℕ, Bool, true, false, List, [], ◌∷◌, length, drop, Option, Some, None, Result, Ok, Err, refl, ap, sym, ◌∙◌, subst, cond, arith, nat_lt, nat_eq, get_or, codes}
use Rattle.std.specs.Prelude.{IfNone, IfSome, option_map, ◌&&◌, if◌then◌else◌}
use Rattle.std.specs.Bool.{Decides}
use Rattle.std.specs.Char.{digit_value}
use Rattle.std.specs.List.{starts_with}
use Rattle.std.specs.Result.{OkIff, result_ok}
use Rattle.std.specs.Str.{IsCharBoundary}
use Rattle.std.specs.Str.Parse.{AllDigits, IsNumeral, ParsesUnsigned, digits_value, without_leading_plus}
use Rattle.std.specs.Str.Pattern.{FindsTextPrefix, StripsPrefix}
use Rattle.std.proofs.lemmas.Bool.{ltb-false, lt-leb, ne_eqb}
use Rattle.std.proofs.lemmas.Bool.Decides.{Decides-and, Decides-ltb}
use Rattle.std.proofs.lemmas.Option.{same_Some}
use Rattle.std.proofs.lemmas.Str.Pattern.{starts_text}
use Rattle.serde_json.specs.Data.{Data}
use Rattle.ts_jtree.specs.declared.fault.JsonKind.TheVariants.{WrongKind}
use Rattle.ts_jtree.specs.Attributes.{in_range, number_in}
use Rattle.ts_jtree.specs.Faults.{or_refuse, refuse, ◌>>=◌}
use Rattle.ts_jtree.specs.Numbers.{are_digits, number_of_text, numeral, number_of, capped}

digits_test : (radix : ℕ) (ds : List ℕ) → Decides (are_digits radix ds) (AllDigits radix ds)
digits_test radix [] = (λ e. tt, λ h. refl)
digits_test radix (d ∷ ds) = Decides-and _ _ (Decides-ltb (digit_value d) radix) (digits_test radix ds)

numeral_test : (radix : ℕ) (ds : List ℕ) → Decides (nat_lt 0 (length ds) && are_digits radix ds) (IsNumeral radix ds)
numeral_test radix ds = Decides-and _ _ (Decides-ltb 0 (length ds)) (digits_test radix ds)

is_some_numeral : (radix : ℕ) (ds : List ℕ) → IsNumeral radix ds → numeral radix ds ≡ Some (digits_value radix ds)
is_some_numeral radix ds h = ap (λ b. cond b (Some (digits_value radix ds)) None) ((numeral_test radix ds).1 h)

-- what is not a numeral of at most 64 bits has no number below 2^64
none_below : (radix : ℕ) (ds : List ℕ) → (IsNumeral radix ds × (digits_value radix ds < 2 ^ 64) → ⊥)
    → IfSome (numeral radix ds) (λ n. 2 ^ 64 ≤ n)
none_below radix ds never =
    go (nat_lt 0 (length ds) && are_digits radix ds) (λ e. (numeral_test radix ds).0 e)
  where
    go : (b : Bool) → (b ≡ true → IsNumeral radix ds) → IfSome (cond b (Some (digits_value radix ds)) None) (λ n. 2 ^ 64 ≤ n)
    go false h = tt
    go true h = omega (arith, λ (lt : digits_value radix ds < 2 ^ 64). never (h refl, lt))

unsigned : {E : Type 0} (radix : ℕ) (ds : List ℕ) (r : Result ℕ E) → without_leading_plus ds ≡ ds
    → ParsesUnsigned 64 radix ds r
    → OkIff r (IsNumeral radix ds × (digits_value radix ds < 2 ^ 64)) (digits_value radix ds)
unsigned radix ds r e h =
    subst (λ (t : List ℕ). OkIff r (IsNumeral radix t × (digits_value radix t < 2 ^ 64)) (digits_value radix t)) e h

pub parsed_some : {E : Type 0} (radix : ℕ) (ds : List ℕ) (r : Result ℕ E) → without_leading_plus ds ≡ ds
    → ParsesUnsigned 64 radix ds r → IfSome (result_ok r) (λ n. numeral radix ds ≡ Some n)
parsed_some {E} radix ds (Ok n) e h =
    let q = unsigned {E = E} radix ds (Ok n) e h in is_some_numeral radix ds q.0.0 ∙ ap Some (sym q.1)
parsed_some {E} radix ds (Err x) e h = tt

pub parsed_none : {E : Type 0} (radix : ℕ) (ds : List ℕ) (r : Result ℕ E) → without_leading_plus ds ≡ ds
    → ParsesUnsigned 64 radix ds r → IfNone (result_ok r) (IfSome (numeral radix ds) (λ n. 2 ^ 64 ≤ n))
parsed_none {E} radix ds (Ok n) e h = tt
parsed_none {E} radix ds (Err x) e h = none_below radix ds (unsigned {E = E} radix ds (Err x) e h)

-- a text that does not begin with `+`
pub no_plus : (ds : List ℕ) → get_or ds 0 0 ≢ 43 → without_leading_plus ds ≡ ds
no_plus ds ne = ap (λ b. drop (cond b 1 0) ds) (ne_eqb _ _ ne)

-- ---- the sign `0x`

hexadecimal : (s : List ℕ) → true ≡ starts_with nat_eq s (codes "0x") → number_of_text s ≡ numeral 16 (drop 2 s)
unfolding number_of_text
hexadecimal s e = ap (λ b. cond b (numeral 16 (drop 2 s)) (numeral 10 s)) (sym e)

decimal : (s : List ℕ) → false ≡ starts_with nat_eq s (codes "0x") → number_of_text s ≡ numeral 10 s
unfolding number_of_text
decimal s e = ap (λ b. cond b (numeral 16 (drop 2 s)) (numeral 10 s)) (sym e)

pub after_sign : (s x : List ℕ) → StripsPrefix (FindsTextPrefix (codes "0x")) s x → number_of_text s ≡ numeral 16 x
after_sign s x h =
    let two : h.0 ≡ 2 = h.1.0 in
    let cut : IsCharBoundary s h.0 = subst (λ (k : ℕ). IsCharBoundary s k) (sym h.1.0) h.1.2 in
    hexadecimal s (starts_text true (codes "0x") s (h.0, h.1, cut))
    ∙ ap (λ k. numeral 16 (drop k s)) (sym two) ∙ ap (numeral 16) (sym h.2)

pub without_sign : (s : List ℕ) → FindsTextPrefix (codes "0x") s None → number_of_text s ≡ numeral 10 s
without_sign s h = decimal s (starts_text false (codes "0x") s h)

-- ---- numbers of 64 bits

by_size : (b : Bool) (range : Option (ℕ × ℕ)) (widest : ℕ) (key : List ℕ) (m : ℕ) → nat_lt m (2 ^ 64) ≡ b
    → widest < 2 ^ 63 → in_range range widest key m ≡ in_range range widest key (if b then m else 0xFFFFFFFFFFFFFFFF)
by_size true range widest key m is small = refl
by_size false range widest key m is small =
    let large : 2 ^ 64 ≤ m = ltb-false m (2 ^ 64) is in
    let first = lt-leb m widest (omega arith) in
    let second = lt-leb 0xFFFFFFFFFFFFFFFF widest (omega arith) in
    rw (first, second) refl

present_by : (o : Option ℕ) (range : Option (ℕ × ℕ)) (widest : ℕ) (key : List ℕ) (n : ℕ)
    → Some n ≡ option_map capped o → widest < 2 ^ 63
    → (or_refuse o key WrongKind >>= λ m. in_range range widest key m) ≡ in_range range widest key n
present_by None range widest key n is small = cc
present_by (Some m) range widest key n is small =
    let n_is : n ≡ capped m = same_Some _ _ is in
    by_size (nat_lt m (2 ^ 64)) range widest key m refl small ∙ sym (ap (in_range range widest key) n_is)

pub present_some : (range : Option (ℕ × ℕ)) (widest : ℕ) (key : List ℕ) (value : Data) (n : ℕ)
    → Some n ≡ option_map capped (number_of value) → widest < 2 ^ 63
    → number_in range widest key value ≡ in_range range widest key n
unfolding number_in
present_some range widest key value n is small = present_by (number_of value) range widest key n is small

none_by : (o : Option ℕ) (range : Option (ℕ × ℕ)) (widest : ℕ) (key : List ℕ) → None ≡ option_map capped o
    → (or_refuse o key WrongKind >>= λ m. in_range range widest key m) ≡ refuse key WrongKind
none_by None range widest key is = refl
none_by (Some m) range widest key is = cc

pub present_none : (range : Option (ℕ × ℕ)) (widest : ℕ) (key : List ℕ) (value : Data)
    → None ≡ option_map capped (number_of value) → number_in range widest key value ≡ refuse key WrongKind
unfolding number_in
present_none range widest key value is = none_by (number_of value) range widest key is
