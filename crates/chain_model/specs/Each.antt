-- All members of a list have a property.
use Rattle.std.specs.Prelude.{List, [], ◌∷◌}

-- all members have the property
abbrev pub Each : {X : Type 0} → (X → Type 0) → List X → Type 0
Each F [] = Unit {0}
Each F (x ∷ xs) = F x × Each F xs
