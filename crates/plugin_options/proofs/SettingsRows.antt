-- Worked rows: the definitions computed on sets.
use Rattle.std.proofs.Common.{◌≡◌, [], ◌∷◌, false, true, refl}
use Rattle.plugin_options.specs.LabelSet.{label_set}
use Rattle.plugin_options.specs.NumberSet.{has_number}

-- 7 lies in 5-7, 8 in none of 5-7 and 9
seven-inside : has_number ((5, 7) ∷ (9, 9) ∷ []) 7 ≡ true
seven-inside = refl

eight-outside : has_number ((5, 7) ∷ (9, 9) ∷ []) 8 ≡ false
eight-outside = refl

-- the labels of 0-1 and 3 are 0, 1 and 3, given as 1 + 2 + 8
three-labels : label_set ((0, 1) ∷ (3, 3) ∷ []) ≡ 11
unfolding label_set
three-labels = refl
