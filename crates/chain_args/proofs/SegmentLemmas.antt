-- Words that are cut into segments.
use Rattle.std.proofs.Common.{◌≡◌, ◌∙◌, ◌+◌, ◌≤◌, ℕ, suc, Bool, true, false, not, cond, List, [], ◌∷◌, length, take, drop, map, Option, Some, None, refl, ap, sym, arith}
use Rattle.std.specs.Prelude.{nat_lt, unwrap_or}
use Rattle.std.specs.List.{position, position_or_len}
use Rattle.std.proofs.lemmas.Bool.Decides.{nat_tests}
use Rattle.std.proofs.lemmas.List.{drop-map, take-map}
use Rattle.std.proofs.lemmas.List.Sums.{prefix_len-le-length}
use Rattle.chain_args.specs.Segments.{Segment, cut, is_segment_word}

-- a list and a number of elements more than none
take-one-more : {X : Type 0} (n : ℕ) (x : X) (xs : List X) → take (1 + n) (x ∷ xs) ≡ x ∷ take n xs
take-one-more n x xs = let e : 1 + n ≡ suc n = omega arith in rw e refl

drop-one-more : {X : Type 0} (n : ℕ) (x : X) (xs : List X) → drop (1 + n) (x ∷ xs) ≡ drop n xs
drop-one-more n x xs = let e : 1 + n ≡ suc n = omega arith in rw e refl

position_or_len-le : {X : Type 0} (p : X → Bool) (xs : List X) → position_or_len p xs ≤ length xs
position_or_len-le p xs = prefix_len-le-length (λ x. not (p x)) xs

position_or_len-all : {X : Type 0} (p : X → Bool) (xs : List X) → nat_lt (position_or_len p xs) (length xs) ≡ false → length xs ≡ position_or_len p xs
position_or_len-all p xs e = grind (arith, nat_tests, position_or_len-le p xs)

pub end_of_front : {X : Type 0} (p : X → Bool) (xs : List X) → unwrap_or (position p xs) (length xs) ≡ position_or_len p xs
end_of_front p xs = go (nat_lt (position_or_len p xs) (length xs)) (λ e. position_or_len-all p xs e)
  where
    go : (b : Bool) → (b ≡ false → length xs ≡ position_or_len p xs) → unwrap_or (cond b (Some (position_or_len p xs)) None) (length xs) ≡ position_or_len p xs
    go true h = refl
    go false h = h refl

pub position-map : {X Y : Type 0} (p : Y → Bool) (f : X → Y) (xs : List X) → position_or_len (λ x. p (f x)) xs ≡ position_or_len p (map f xs)
position-map p f [] = refl
position-map p f (x ∷ xs) = ap (λ n. cond (not (p (f x))) (1 + n) 0) (position-map p f xs)

-- the words before the first segment word
pub cut-front : (words : List (List ℕ)) → (cut words).0 ≡ take (position_or_len is_segment_word words) words
unfolding cut
cut-front [] = refl
cut-front (word ∷ words) = go (is_segment_word word) (cut-front words)
  where
    go : (b : Bool) → (cut words).0 ≡ take (position_or_len is_segment_word words) words
        → (cond {A = List (List ℕ) × List Segment} b ([], record { first = word; others = (cut words).0 } ∷ (cut words).1) (word ∷ (cut words).0, (cut words).1)).0 ≡ take (cond (not b) (1 + position_or_len is_segment_word words) 0) (word ∷ words)
    go true h = refl
    go false h = ap (λ t. word ∷ t) h ∙ sym (take-one-more (position_or_len is_segment_word words) word words)

-- the words from it on
pub cut-rest : (words : List (List ℕ)) → cut (drop (position_or_len is_segment_word words) words) ≡ ([], (cut words).1)
unfolding cut
cut-rest [] = refl
cut-rest (word ∷ words) = go (is_segment_word word) refl (cut-rest words)
  where
    go : (b : Bool) → is_segment_word word ≡ b → cut (drop (position_or_len is_segment_word words) words) ≡ ([], (cut words).1)
        → cut (drop (cond (not b) (1 + position_or_len is_segment_word words) 0) (word ∷ words)) ≡ ([], (cond {A = List (List ℕ) × List Segment} b ([], record { first = word; others = (cut words).0 } ∷ (cut words).1) (word ∷ (cut words).0, (cut words).1)).1)
    go true e h = ap (λ b. cond {A = List (List ℕ) × List Segment} b ([], record { first = word; others = (cut words).0 } ∷ (cut words).1) (word ∷ (cut words).0, (cut words).1)) e
    go false e h = ap cut (drop-one-more (position_or_len is_segment_word words) word words) ∙ h

-- words that begin with a segment
pub cut-head : (word : List ℕ) (words : List (List ℕ)) → (cut (word ∷ words)).0 ≡ [] → (is_segment_word word ≡ true) × ((cut (word ∷ words)).1 ≡ record { first = word; others = (cut words).0 } ∷ (cut words).1)
unfolding cut
cut-head word words e = go (is_segment_word word) e
  where
    go : (b : Bool) → (cond {A = List (List ℕ) × List Segment} b ([], record { first = word; others = (cut words).0 } ∷ (cut words).1) (word ∷ (cut words).0, (cut words).1)).0 ≡ []
        → (b ≡ true) × ((cond {A = List (List ℕ) × List Segment} b ([], record { first = word; others = (cut words).0 } ∷ (cut words).1) (word ∷ (cut words).0, (cut words).1)).1 ≡ record { first = word; others = (cut words).0 } ∷ (cut words).1)
    go true h = (refl, refl)
    go false h = cc

module _ {W : Type 0} (text : W → List ℕ) (words : List W) (place : Option ℕ) (end : ℕ) where
  end_is : place ≡ position (λ word. is_segment_word (text word)) words → end ≡ unwrap_or place (length words) → end ≡ position_or_len is_segment_word (map text words)
  end_is p e = e ∙ ap (λ o. unwrap_or o (length words)) p ∙ end_of_front (λ word. is_segment_word (text word)) words ∙ position-map is_segment_word text words

  pub front_cut : (front : List W) → place ≡ position (λ word. is_segment_word (text word)) words → end ≡ unwrap_or place (length words) → front ≡ take end words → map text front ≡ (cut (map text words)).0
  front_cut front p e f = ap (map text) f ∙ sym (take-map text end words) ∙ ap (λ n. take n (map text words)) (end_is p e) ∙ sym (cut-front (map text words))

  pub rest_cut : (rest : List W) → place ≡ position (λ word. is_segment_word (text word)) words → end ≡ unwrap_or place (length words) → rest ≡ drop end words → cut (map text rest) ≡ ([], (cut (map text words)).1)
  rest_cut rest p e r = ap cut (ap (map text) r ∙ sym (drop-map text end words) ∙ ap (λ n. drop n (map text words)) (end_is p e)) ∙ cut-rest (map text words)
