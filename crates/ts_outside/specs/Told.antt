-- Lists that are known or not. This project's own rule: `None` is a list that is not known and stays so; what happens to
-- a known list is an equation.
use Rattle.std.specs.Prelude.{ℕ, List, ◌++◌, Option, None, Some, length}

-- the list, with some members before it
abbrev pub before : {T : Type 0} → List T → Option (List T) → Option (List T)
before first None = None
before first (Some l) = Some (first ++ l)

-- the list, grown by some members at its end
abbrev pub grown : {T : Type 0} → Option (List T) → List T → Option (List T)
grown None more = None
grown (Some l) more = Some (l ++ more)

-- how long the list is, where it is known; 0 where it is not
abbrev pub told_length : {T : Type 0} → Option (List T) → ℕ
told_length None = 0
told_length (Some l) = length l
