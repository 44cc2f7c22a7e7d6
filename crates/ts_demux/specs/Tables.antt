-- The tables of a list of sections.
-- ISO/IEC 13818-1, 2.4.4.11: table_id, table_id_extension, version_number, current_next_indicator,
-- section_number and last_section_number. What an era is, and that its table is given once, is this project's own rule.
use Rattle.std.specs.Prelude.{ℕ, ◌+◌, ◌==◌, Bool, not, ◌&&◌, List, [], ◌∷◌, ◌++◌, map, reverse, filter, find, take_while, Option, Some, None, is_some, if◌then◌else◌}
use Rattle.std.specs.List.{filter_map, list_all, range_with_len}
use Rattle.std.specs.Option.{option_to_list}
use Rattle.std.specs.Bool.{beq}
use Rattle.ts_section.specs.SectionFields.{table_id_of, extension_of, version_of, current_of, number_of, last_number_of}
use Rattle.ts_section.specs.SectionRun.{stands_alone}

-- whether a section is of the key of `s`: the same table_id, extension and current_next_indicator, and no table by itself
abbrev pub same_key : List ℕ → List ℕ → Bool
same_key s x =
    not (stands_alone x)
    && ((table_id_of x == table_id_of s) && ((extension_of x == extension_of s) && beq (current_of x) (current_of s)))

-- whether a section has the version and the last number of `s`
abbrev pub same_era : List ℕ → List ℕ → Bool
same_era s x = (version_of x == version_of s) && (last_number_of x == last_number_of s)

-- the longest last part of a list of which each member passes
abbrev pub last_while : {X : Type 0} → (X → Bool) → List X → List X
last_while test xs = reverse (take_while test (reverse xs))

-- The era that `s` goes on with: of the sections before it those of its key, back to the last change
-- of version or last number. It is empty where `s` begins one.
unfoldable pub era_of : List (List ℕ) → List ℕ → List (List ℕ)
era_of before s = last_while (same_era s) (filter (same_key s) before)

-- the first section with this number
abbrev pub first_numbered : List (List ℕ) → ℕ → Option (List ℕ)
first_numbered era number = find (λ x. number_of x == number) era

-- for each number from 0 to the last its first section, if there is one
unfoldable pub firsts : ℕ → List (List ℕ) → List (Option (List ℕ))
firsts last era = map (first_numbered era) (range_with_len 0 (last + 1))

-- whether each number from 0 to the last was seen
abbrev pub is_complete : ℕ → List (List ℕ) → Bool
is_complete last era = list_all is_some (firsts last era)

-- the first section of each number, by number
abbrev pub table_of : ℕ → List (List ℕ) → List (List ℕ)
table_of last era = filter_map (λ first. first) (firsts last era)

-- the table that `s` completes after an era: each number was seen with it and not before it
abbrev pub completed : List (List ℕ) → List ℕ → Option (List (List ℕ))
completed era s =
    let last = last_number_of s in
    if is_complete last (era ++ s ∷ []) && not (is_complete last era) then Some (table_of last (era ++ s ∷ [])) else None

-- the table that a section completes after the sections before it
unfoldable pub table_at : List (List ℕ) → List ℕ → Option (List (List ℕ))
table_at before s = if stands_alone s then Some (s ∷ []) else completed (era_of before s) s

-- the tables that sections complete after others
unfoldable pub tables_after : List (List ℕ) → List (List ℕ) → List (List (List ℕ))
tables_after before [] = []
tables_after before (s ∷ ss) = option_to_list (table_at before s) ++ tables_after (before ++ s ∷ []) ss

-- the tables of a list of sections, each where its last section stands
abbrev pub tables_of : List (List ℕ) → List (List (List ℕ))
tables_of ss = tables_after [] ss
