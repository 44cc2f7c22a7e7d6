-- Worked rows, computed on the definitions. A member is its position and a letter.
use Rattle.std.proofs.Common.{◌≡◌, ℕ, [], ◌∷◌, refl}
use Rattle.chain_rounds.specs.Merged.{merged}

record Member : Type 0 where
  pub at : ℕ
  pub letter : ℕ

abbrev member : ℕ → ℕ → Member
member at letter = record { at = at; letter = letter }

abbrev place : Member → ℕ
place m = m.at

-- by position, and of two at one position first that of the first row
by_position : merged place (member 0 97 ∷ member 2 98 ∷ member 2 99 ∷ []) (member 1 100 ∷ member 2 101 ∷ member 3 102 ∷ [])
    ≡ member 0 97 ∷ member 1 100 ∷ member 2 98 ∷ member 2 99 ∷ member 2 101 ∷ member 3 102 ∷ []
by_position = refl

-- with an empty row
with_none : merged place [] (member 1 100 ∷ []) ≡ member 1 100 ∷ []
with_none = refl
