-- One list begins another.
use Rattle.std.specs.Prelude.{◌≡◌, List, ◌++◌}

-- ys begins with xs; it may be xs itself
abbrev pub IsPrefix : {X : Type 0} → List X → List X → Type 0
IsPrefix {X} xs ys = (rest : List X) × (ys ≡ xs ++ rest)
