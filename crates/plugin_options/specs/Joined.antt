-- Values joined by commas, as words write them.
-- This project's own rule.
use Rattle.std.specs.Prelude.{ℕ, ◌==◌, Bool, List, [], ◌∷◌, None, Option, Some}
use Rattle.std.specs.List.{slice_split}

-- the byte is `,`
abbrev pub is_comma : ℕ → Bool
is_comma byte = byte == 44

-- a first item and those after it, where none is missing
abbrev pub if_all : {X : Type 0} → Option X → Option (List X) → Option (List X)
if_all (Some item) (Some items) = Some (item ∷ items)
if_all _ _ = None

-- what a reader reads from the parts, where it takes each
abbrev pub read_parts : {X : Type 0} → (List ℕ → Option X) → List (List ℕ) → Option (List X)
read_parts reader [] = Some []
read_parts reader (part ∷ parts) = if_all (reader part) (read_parts reader parts)

-- what a reader reads from the parts between commas, where it takes each; a part may be empty
abbrev pub read_joined : {X : Type 0} → (List ℕ → Option X) → List ℕ → Option (List X)
read_joined reader text = read_parts reader (slice_split is_comma text)
