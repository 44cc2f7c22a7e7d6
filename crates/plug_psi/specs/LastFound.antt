-- What is found in the last of some tables in which something is found.
-- This project's own rule.
use Rattle.std.specs.Prelude.{ℕ, List, [], ◌∷◌, fold, Option, Some, None}

-- what is found replaces what was found before
abbrev pub newer : {X : Type 0} → Option X → Option X → Option X
newer old None = old
newer old (Some x) = Some x

-- what is found in the last of some tables in which something is found, or else what was found before
abbrev pub found_after : {X : Type 0} → (List (List ℕ) → Option X) → Option X → List (List (List ℕ)) → Option X
found_after found old tables = fold (λ o table. newer o (found table)) old tables

-- what is found in the last table in which something is found
unfoldable pub last_found : {X : Type 0} → (List (List ℕ) → Option X) → List (List (List ℕ)) → Option X
last_found found tables = found_after found None tables

-- the last of some things
abbrev pub last_one : {X : Type 0} → List X → Option X
last_one [] = None
last_one (x ∷ xs) = newer (Some x) (last_one xs)
