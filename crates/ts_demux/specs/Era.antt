-- What the era of a key keeps, and which sections it stands for.
-- This project's own rule.
use Rattle.std.specs.Prelude.{◌≡◌, ℕ, ◌==◌, ◌&&◌, Bool, false, List, [], ◌∷◌, ◌++◌, All, Option, Some, None}
use Rattle.ts_section.specs.SectionFields.{table_id_of, extension_of, version_of, current_of, last_number_of}
use Rattle.ts_section.specs.SectionRun.{stands_alone}
use Rattle.ts_demux.specs.Tables.{firsts, is_complete}
use Rattle.ts_demux.specs.declared.era.Era.{Era}

-- an era stands for the sections that it was given: its table was given where they are complete,
-- and until then the first section of each number is kept
pub record IsEra (era : Era) (sections : List (List ℕ)) : Type 0 where
  pub given : era.given ≡ is_complete era.last sections
  pub kept : era.given ≡ false → era.firsts.items ≡ firsts era.last sections

-- a section is of the key of `s`, and has its version and last number
pub record Belongs (s x : List ℕ) : Type 0 where
  pub together : stands_alone x ≡ false
  pub same_id : table_id_of x ≡ table_id_of s
  pub same_extension : extension_of x ≡ extension_of s
  pub same_current : current_of x ≡ current_of s
  pub same_version : version_of x ≡ version_of s
  pub same_last : last_number_of x ≡ last_number_of s

-- sections and one more belong together
abbrev pub AllBelong : List ℕ → List (List ℕ) → Type 0
AllBelong s sections = All (λ x. Belongs s x) (sections ++ s ∷ [])

-- The entry of a key, if there is one, stands for the sections of the key back to the last change of version
-- or last number, where these are the version and the last number; and for none where they are others.
abbrev pub EntryStands : Option Era → ℕ → ℕ → List (List ℕ) → Type 0
EntryStands None version last sections = sections ≡ []
EntryStands (Some era) version last sections =
    (era.version ≡ version → era.last ≡ last → IsEra era sections)
    × (((era.version == version) && (era.last == last)) ≡ false → sections ≡ [])

-- whether the entry of a key is an era of this version and last number
abbrev pub entry_goes_on : Option Era → ℕ → ℕ → Bool
entry_goes_on None version last = false
entry_goes_on (Some era) version last = (era.version == version) && (era.last == last)

-- the entry of a key is an era of this version and last number
abbrev pub HasEra : Option Era → ℕ → ℕ → Type 0
HasEra None version last = ⊥
HasEra (Some era) version last = (era.version ≡ version) × (era.last ≡ last)

-- and it stands for some sections
abbrev pub EraStands : Option Era → List (List ℕ) → Type 0
EraStands None sections = ⊥
EraStands (Some era) sections = IsEra era sections
