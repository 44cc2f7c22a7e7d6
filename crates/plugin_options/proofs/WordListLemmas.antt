-- Words that are joined by commas, cut at the first comma.
use Rattle.std.proofs.Common.{◌≡◌, ◌<◌, ◌&&◌, ◌||◌, ◌∷◌, ◌∙◌, ℕ, Bool, List, length, true, false, refl, ap, sym}
use Rattle.std.specs.List.{after_first, before_first, list_all, list_any, position_or_len, slice_split}
use Rattle.std.specs.Str.{bytes_eq}
use Rattle.std.proofs.lemmas.List.Splits.{slice_split_first}
use Rattle.plugin_options.specs.Joined.{is_comma}
use Rattle.plugin_options.specs.WordLists.{are_known, has_part}
use Rattle.plugin_options.proofs.JoinedLemmas.{last_part}

or-left : (a b : Bool) → a ≡ true → a ≡ (a || b)
or-left true b e = refl
or-left false b e = cc

or-right : (a b : Bool) → a ≡ false → b ≡ (a || b)
or-right true b e = cc
or-right false b e = refl

and-left : (a b : Bool) → a ≡ false → a ≡ (a && b)
and-left true b e = cc
and-left false b e = refl

and-right : (a b : Bool) → a ≡ true → b ≡ (a && b)
and-right true b e = refl
and-right false b e = cc

or-none : (b : Bool) → b ≡ (b || false)
or-none true = refl
or-none false = refl

and-none : (b : Bool) → b ≡ (b && true)
and-none true = refl
and-none false = refl

cut : (text part others : List ℕ) → position_or_len is_comma text < length text → part ≡ before_first is_comma text → others ≡ after_first is_comma text
    → part ∷ slice_split is_comma others ≡ slice_split is_comma text
cut text part others lt e f =
    ap (λ p. p ∷ slice_split is_comma others) e ∙ ap (λ o. before_first is_comma text ∷ slice_split is_comma o) f ∙ sym (slice_split_first is_comma text 0 lt)

-- the first part is the word, or another one may be
module _ (word text part others : List ℕ) (lt : position_or_len is_comma text < length text) (e : part ≡ before_first is_comma text) (f : others ≡ after_first is_comma text)
    (is : Bool) (told : is ≡ bytes_eq part word) where
  pub part-first : is ≡ true → is ≡ has_part word text
  part-first h =
      or-left is (has_part word others) h ∙ ap (λ b. b || has_part word others) told ∙ ap (list_any (λ p. bytes_eq p word)) (cut text part others lt e f)

  pub part-later : (later : Bool) → is ≡ false → later ≡ has_part word others → later ≡ has_part word text
  part-later later h g =
      g ∙ or-right is (has_part word others) h ∙ ap (λ b. b || has_part word others) told ∙ ap (list_any (λ p. bytes_eq p word)) (cut text part others lt e f)

pub part-alone : (word text : List ℕ) → position_or_len is_comma text ≡ length text → (is : Bool) → is ≡ bytes_eq text word → is ≡ has_part word text
part-alone word text e is told = told ∙ or-none (bytes_eq text word) ∙ ap (list_any (λ p. bytes_eq p word)) (sym (last_part text e))

-- the first part is not known, or all may be
module _ (test : List ℕ → Bool) (text part others : List ℕ) (lt : position_or_len is_comma text < length text) (e : part ≡ before_first is_comma text) (f : others ≡ after_first is_comma text)
    (is : Bool) (told : is ≡ test part) where
  pub known-first : is ≡ false → is ≡ are_known test text
  known-first h =
      and-left is (are_known test others) h ∙ ap (λ b. b && are_known test others) told ∙ ap (list_all test) (cut text part others lt e f)

  pub known-later : (later : Bool) → is ≡ true → later ≡ are_known test others → later ≡ are_known test text
  known-later later h g =
      g ∙ and-right is (are_known test others) h ∙ ap (λ b. b && are_known test others) told ∙ ap (list_all test) (cut text part others lt e f)

pub known-alone : (test : List ℕ → Bool) (text : List ℕ) → position_or_len is_comma text ≡ length text → (is : Bool) → is ≡ test text → is ≡ are_known test text
known-alone test text e is told = told ∙ and-none (test text) ∙ ap (list_all test) (sym (last_part text e))
