-- The sections of one whole table.
-- ISO/IEC 13818-1, 2.4.4.11: section_number counts from 0 to last_section_number under one head.
-- That a short section and an EIT section (ETSI EN 300 468, 5.2.4) are each a table by themselves is this project's own rule.
use Rattle.std.specs.Prelude.{◌≡◌, ℕ, ◌+◌, ◌<◌, ◌≤◌, Bool, true, false, nat_le, not, ◌||◌, ◌&&◌, List, [], ◌∷◌, length, take, EachIndex, slice_index_or, ◌⊎◌}
use Rattle.ts_section.specs.SectionFields.{table_id_of, is_long, extension_of, version_of, current_of, number_of, last_number_of}
use Rattle.ts_section.specs.declared.long_head.LongHead.{LongHead}

-- whether a section is a table by itself: it is short, or of an EIT (table_id 0x4E to 0x6F)
abbrev pub stands_alone : List ℕ → Bool
stands_alone s = not (is_long s) || (nat_le 78 (table_id_of s) && nat_le (table_id_of s) 111)

-- a section may be at a place of the run that `first` begins: same table, extension, version,
-- current flag and last number, and the place as its number; the private bit is free
pub record IsMember (first : List ℕ) (place : ℕ) (s : List ℕ) : Type 0 where
  pub together : stands_alone s ≡ false
  pub same_id : table_id_of s ≡ table_id_of first
  pub same_extension : extension_of s ≡ extension_of first
  pub same_version : version_of s ≡ version_of first
  pub same_current : current_of s ≡ current_of first
  pub same_last : last_number_of s ≡ last_number_of first
  pub numbered : number_of s ≡ place
  pub counted : place ≤ last_number_of first

-- the same by the first section's head alone, for any place
pub record SharesHead (first : LongHead) (place : ℕ) (s : List ℕ) : Type 0 where
  pub together : stands_alone s ≡ false
  pub same_id : table_id_of s ≡ first.table_id
  pub same_extension : extension_of s ≡ first.extension
  pub same_version : version_of s ≡ first.version
  pub same_current : current_of s ≡ first.current
  pub same_last : last_number_of s ≡ first.last
  pub numbered : number_of s ≡ place

-- each section is a member of the run that `first` begins, at its place
abbrev pub AllMembers : List ℕ → List (List ℕ) → Type 0
AllMembers first ss = EachIndex ss (λ place. IsMember first place (slice_index_or ss place []))

-- a first part of a whole run
abbrev pub BeginsRun : List (List ℕ) → Type 0
BeginsRun [] = Unit {0}
BeginsRun (s ∷ rest) = ((stands_alone s ≡ true) × (rest ≡ [])) ⊎ AllMembers s (s ∷ rest)

-- a whole run: one section that is alone, or the numbers from 0 to the last
abbrev pub IsTableRun : List (List ℕ) → Type 0
IsTableRun [] = ⊥
IsTableRun (s ∷ rest) =
    ((stands_alone s ≡ true) × (rest ≡ [])) ⊎ (AllMembers s (s ∷ rest) × (length (s ∷ rest) ≡ last_number_of s + 1))

-- the list is not a whole run, and `place` is the first section at which no run continues,
-- or the number of sections where some are missing
pub record IsRunFault (ss : List (List ℕ)) (place : ℕ) : Type 0 where
  pub not_whole : IsTableRun ss → ⊥
  pub within : place ≤ length ss
  pub begins : BeginsRun (take place ss)
  pub stops : place < length ss → BeginsRun (take (place + 1) ss) → ⊥
