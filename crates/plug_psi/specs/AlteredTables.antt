-- The tables that an edit alters: of which it makes other sections, or none.
-- This project's own rule: sections are compared byte by byte, in their order.
use Rattle.std.specs.Prelude.{ℕ, ◌&&◌, Bool, true, false, not, List, [], ◌∷◌, bytes_eq}
use Rattle.std.specs.List.{list_any}
use Rattle.plug_psi.specs.Edits.{Change, carried}

-- whether two lists have the same sections
abbrev pub same_sections : List (List ℕ) → List (List ℕ) → Bool
same_sections [] [] = true
same_sections [] (other ∷ others) = false
same_sections (section ∷ sections) [] = false
same_sections (section ∷ sections) (other ∷ others) = bytes_eq section other && same_sections sections others

-- whether other sections than those of the table are carried in its place, or none
abbrev pub alters : (List (List ℕ) → Change) → List (List ℕ) → Bool
alters edit run = not (same_sections (carried run (edit run)) run)

-- whether that holds for one of some tables
abbrev pub alters_one : (List (List ℕ) → Change) → List (List (List ℕ)) → Bool
alters_one edit tables = list_any (alters edit) tables
