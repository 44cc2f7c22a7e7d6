-- Texts that are cut at their commas, part by part.
use Rattle.std.proofs.Common.{◌≡◌, ◌++◌, ◌<◌, ◌∙◌, ℕ, List, [], ◌∷◌, length, Option, Some, None, refl, ap, ap₂, sym, arith, append_assoc}
use Rattle.std.specs.Prelude.{option_map}
use Rattle.std.specs.List.{after_first, before_first, position_or_len, slice_split}
use Rattle.std.proofs.lemmas.List.Splits.{slice_split_first, slice_split_none}
use Rattle.std.proofs.lemmas.List.Sums.{fails_before_first}
use Rattle.plugin_options.specs.Joined.{if_all, is_comma, read_joined, read_parts}

-- items that were read, with those of the parts after them
abbrev pub with_later : {X : Type 0} → List X → Option (List X) → Option (List X)
with_later items = option_map (λ later. items ++ later)

pub last_part : (rest : List ℕ) → position_or_len is_comma rest ≡ length rest → slice_split is_comma rest ≡ rest ∷ []
last_part rest e = slice_split_none is_comma rest (λ k d lt. fails_before_first is_comma rest k d (omega (arith, e)))

module _ {X : Type 0} (reader : List ℕ → Option X) where
  -- the items that the parts of a text have
  abbrev pub parts_read : List ℕ → Option (List X)
  parts_read rest = read_parts reader (slice_split is_comma rest)

  pub joined_begin : (s : List ℕ) → read_joined reader s ≡ with_later [] (parts_read s)
  joined_begin s = go (parts_read s)
    where
      go : (o : Option (List X)) → o ≡ with_later [] o
      go None = refl
      go (Some later) = refl

  if_all_later : (items : List X) (item : X) (o : Option (List X)) → with_later items (if_all (Some item) o) ≡ with_later (items ++ item ∷ []) o
  if_all_later items item None = refl
  if_all_later items item (Some later) = ap Some (sym (append_assoc items (item ∷ []) later))

  -- one more part, which is read
  pub joined_step : (items : List X) (rest part others : List ℕ) (item : X) → position_or_len is_comma rest < length rest → part ≡ before_first is_comma rest → others ≡ after_first is_comma rest
      → Some item ≡ reader part → with_later items (parts_read rest) ≡ with_later (items ++ item ∷ []) (parts_read others)
  joined_step items rest part others item lt e1 e2 is =
      ap (λ parts. with_later items (read_parts reader parts)) (slice_split_first is_comma rest 0 lt)
      ∙ ap₂ (λ one later. with_later items (if_all one (parts_read later))) (ap reader (sym e1) ∙ sym is) (sym e2)
      ∙ if_all_later items item (parts_read others)

  -- one more part, which is not
  pub joined_stop : (items : List X) (rest part : List ℕ) → position_or_len is_comma rest < length rest → part ≡ before_first is_comma rest
      → None ≡ reader part → with_later items (parts_read rest) ≡ None
  joined_stop items rest part lt e1 is =
      ap (λ parts. with_later items (read_parts reader parts)) (slice_split_first is_comma rest 0 lt)
      ∙ ap (λ one. with_later items (if_all one (parts_read (after_first is_comma rest)))) (ap reader (sym e1) ∙ sym is)

  -- the last part, which is read
  pub joined_end : (items : List X) (rest : List ℕ) (item : X) → position_or_len is_comma rest ≡ length rest
      → Some item ≡ reader rest → with_later items (parts_read rest) ≡ Some (items ++ item ∷ [])
  joined_end items rest item e is =
      ap (λ parts. with_later items (read_parts reader parts)) (last_part rest e)
      ∙ ap (λ one. with_later items (if_all one (Some []))) (sym is)

  -- the last part, which is not
  pub joined_end_none : (items : List X) (rest : List ℕ) → position_or_len is_comma rest ≡ length rest
      → None ≡ reader rest → with_later items (parts_read rest) ≡ None
  joined_end_none items rest e is =
      ap (λ parts. with_later items (read_parts reader parts)) (last_part rest e)
      ∙ ap (λ one. with_later items (if_all one (Some []))) (sym is)
