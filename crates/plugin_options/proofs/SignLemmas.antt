-- Texts that are cut at a sign.
use Rattle.std.proofs.Common.{◌≡◌, ◌+◌, ◌<◌, ◌≤◌, ◌||◌, ◌∙◌, ℕ, Bool, true, false, not, cond, List, [], ◌∷◌, length, Option, Some, None, refl, ap, ap₂, sym, arith}
use Rattle.std.specs.Prelude.{◌==◌, option_map}
use Rattle.std.specs.List.{after_first, before_first, list_any, position_or_len}
use Rattle.std.proofs.lemmas.Bool.Decides.{nat_tests}
use Rattle.plugin_options.specs.Number.{number_within}
use Rattle.plugin_options.specs.Pairs.{both_of, pair_of}
use Rattle.plugin_options.specs.Parts.{numbered_of, part_of}
use Rattle.plugin_options.specs.Ranges.{if_ordered, is_dash, ordered_pair, range_of}
use Rattle.plugin_options.specs.declared.part.Part.{Part}

-- ---- whether the sign is there

stands : {X : Type 0} (p : X → Bool) (xs : List X) → position_or_len p xs < length xs → list_any p xs ≡ true
stands p [] h = absurd (omega arith)
stands {X} p (x ∷ xs) h = go (p x) (λ g. stands p xs g) h
  where
    go : (b : Bool) → (position_or_len p xs < length xs → list_any p xs ≡ true) → cond (not b) (1 + position_or_len p xs) 0 < length (x ∷ xs) → (b || list_any p xs) ≡ true
    go true later g = refl
    go false later g = later (omega (arith, g))

is_absent : {X : Type 0} (p : X → Bool) (xs : List X) → position_or_len p xs ≡ length xs → list_any p xs ≡ false
is_absent p [] h = refl
is_absent {X} p (x ∷ xs) h = go (p x) (λ g. is_absent p xs g) h
  where
    go : (b : Bool) → (position_or_len p xs ≡ length xs → list_any p xs ≡ false) → cond (not b) (1 + position_or_len p xs) 0 ≡ length (x ∷ xs) → (b || list_any p xs) ≡ false
    go true later g = absurd (omega (arith, g))
    go false later g = later (omega (arith, g))

-- ---- ranges

pub range_alone : (least most : ℕ) (s : List ℕ) (n : Option ℕ) → position_or_len is_dash s ≡ length s → n ≡ number_within least most s → range_of least most s ≡ option_map (λ k. (k, k)) n
unfolding range_of
range_alone least most s n h e = ap (λ b. cond b (ordered_pair (number_within least most (before_first is_dash s)) (number_within least most (after_first is_dash s))) (option_map (λ k. (k, k)) (number_within least most s))) (is_absent is_dash s h)
    ∙ ap (option_map (λ k. (k, k))) (sym e)

pub range_of_two : (least most : ℕ) (s low high : List ℕ) (a b : Option ℕ) → position_or_len is_dash s < length s → low ≡ before_first is_dash s → high ≡ after_first is_dash s
    → a ≡ number_within least most low → b ≡ number_within least most high → range_of least most s ≡ ordered_pair a b
unfolding range_of
range_of_two least most s low high a b h el eh ea eb = ap (λ c. cond c (ordered_pair (number_within least most (before_first is_dash s)) (number_within least most (after_first is_dash s))) (option_map (λ k. (k, k)) (number_within least most s))) (stands is_dash s h)
    ∙ ap₂ ordered_pair (ap (number_within least most) (sym el) ∙ sym ea) (ap (number_within least most) (sym eh) ∙ sym eb)

-- ---- pairs

pub pair_wants_sign : (sign : ℕ) (first second : ℕ × ℕ) (s : List ℕ) → position_or_len (λ b. b == sign) s ≡ length s → pair_of sign first second s ≡ None
unfolding pair_of
pair_wants_sign sign first second s h = ap (λ c. cond c (both_of (number_within first.0 first.1 (before_first (λ b. b == sign) s)) (number_within second.0 second.1 (after_first (λ b. b == sign) s))) None) (is_absent (λ b. b == sign) s h)

pub pair_of_two : (sign : ℕ) (first second : ℕ × ℕ) (s one other : List ℕ) (a b : Option ℕ) → position_or_len (λ b. b == sign) s < length s → one ≡ before_first (λ b. b == sign) s → other ≡ after_first (λ b. b == sign) s
    → a ≡ number_within first.0 first.1 one → b ≡ number_within second.0 second.1 other → pair_of sign first second s ≡ both_of a b
unfolding pair_of
pair_of_two sign first second s one other a b h e1 e2 ea eb = ap (λ c. cond c (both_of (number_within first.0 first.1 (before_first (λ b. b == sign) s)) (number_within second.0 second.1 (after_first (λ b. b == sign) s))) None) (stands (λ b. b == sign) s h)
    ∙ ap₂ both_of (ap (number_within first.0 first.1) (sym e1) ∙ sym ea) (ap (number_within second.0 second.1) (sym e2) ∙ sym eb)

pub in_order : (low high : ℕ) → low ≤ high → if_ordered low high ≡ Some (low, high)
in_order low high h = grind (arith, nat_tests)

pub out_of_order : (low high : ℕ) → high < low → if_ordered low high ≡ None
out_of_order low high h = grind (arith, nat_tests)

-- ---- parts behind numbers

pub numbered_wants_sign : (sign : ℕ) (range : ℕ × ℕ) (part : Part) (s : List ℕ) → position_or_len (λ b. b == sign) s ≡ length s → numbered_of sign range part s ≡ None
unfolding numbered_of
numbered_wants_sign sign range part s h = ap (λ c. cond c (both_of (number_within range.0 range.1 (before_first (λ b. b == sign) s)) (part_of part (after_first (λ b. b == sign) s))) None) (is_absent (λ b. b == sign) s h)

pub numbered_of_two : (sign : ℕ) (range : ℕ × ℕ) (part : Part) (s one other : List ℕ) (a : Option ℕ) (b : Option (List ℕ)) → position_or_len (λ b. b == sign) s < length s → one ≡ before_first (λ b. b == sign) s → other ≡ after_first (λ b. b == sign) s
    → a ≡ number_within range.0 range.1 one → b ≡ part_of part other → numbered_of sign range part s ≡ both_of a b
unfolding numbered_of
numbered_of_two sign range part s one other a b h e1 e2 ea eb = ap (λ c. cond c (both_of (number_within range.0 range.1 (before_first (λ b. b == sign) s)) (part_of part (after_first (λ b. b == sign) s))) None) (stands (λ b. b == sign) s h)
    ∙ ap₂ both_of (ap (number_within range.0 range.1) (sym e1) ∙ sym ea) (ap (part_of part) (sym e2) ∙ sym eb)
