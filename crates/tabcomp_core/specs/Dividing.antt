-- Sections divided into the runs of whole tables.
-- This project's own rule: a run is given by its first section. It is that section alone where it is a table by itself,
-- and else the sections that have its head and the numbers from 0 to its last; where no run continues, there are none.
use Rattle.std.specs.Prelude.{◌≡◌, ℕ, zero, suc, ◌+◌, ◌<◌, ◌≤◌, Bool, false, not, ◌&&◌, bytes_eq, nat_eq, nat_le, List, [], ◌∷◌, ◌++◌, length, take, drop, All, if◌then◌else◌, Result, Ok, Err}
use Rattle.ts_section.specs.SectionFields.{current_of, extension_of, last_number_of, number_of, table_id_of, version_of}
use Rattle.ts_section.specs.SectionRun.{stands_alone, BeginsRun, IsRunFault, IsTableRun}
use Rattle.ts_table_rows.specs.Filling.{join}
use Rattle.tabcomp_core.specs.declared.dividing.NoRuns.{NoRuns}
use Rattle.tabcomp_core.specs.declared.dividing.NoRuns.TheVariants as faults

-- what the sections of one run have in common
abbrev pub shared_fields : List ℕ → List ℕ
shared_fields s =
    table_id_of s ∷ extension_of s ∷ version_of s ∷ (if current_of s then 1 else 0) ∷ last_number_of s ∷ []

-- whether a section may be at a place of the run that `first` begins
abbrev pub is_member : List ℕ → ℕ → List ℕ → Bool
is_member first place s =
    not (stands_alone s) && (bytes_eq (shared_fields s) (shared_fields first)
    && (nat_eq (number_of s) place && nat_le place (last_number_of first)))

-- how many sections at the front continue the run that `first` begins, the first of them at this place
unfoldable pub members_from : List ℕ → ℕ → List (List ℕ) → ℕ
members_from first place [] = 0
members_from first place (s ∷ ss) =
    if is_member first place s then members_from first (place + 1) ss + 1 else 0

-- how many sections at the front are of one run
abbrev pub begun_size : List (List ℕ) → ℕ
begun_size [] = 0
begun_size (s ∷ ss) = if stands_alone s then 1 else members_from s 0 (s ∷ ss)

-- the number of sections of the run that begins with this one
abbrev pub whole_size : List ℕ → ℕ
whole_size s = if stands_alone s then 1 else last_number_of s + 1

-- a run before those after it
abbrev pub before_runs : List (List ℕ) → Result (List (List (List ℕ))) ℕ → Result (List (List (List ℕ))) ℕ
before_runs run (Ok runs) = Ok (run ∷ runs)
before_runs run (Err place) = Err place

-- the runs of the sections, the first of which has this place, or the place at which no run continues; `most` is at
-- least the number of sections
unfoldable pub runs_from : ℕ → ℕ → List (List ℕ) → Result (List (List (List ℕ))) ℕ
runs_from most place [] = Ok []
runs_from zero place (s ∷ ss) = Ok []
runs_from (suc most) place (s ∷ ss) =
    if nat_eq (begun_size (s ∷ ss)) (whole_size s)
    then before_runs (take (begun_size (s ∷ ss)) (s ∷ ss))
    (runs_from most (place + begun_size (s ∷ ss)) (drop (begun_size (s ∷ ss)) (s ∷ ss)))
    else Err (place + begun_size (s ∷ ss))

-- the runs of the sections, or the number of the first at which no run continues
abbrev pub runs_in : List (List ℕ) → Result (List (List (List ℕ))) ℕ
runs_in ss = runs_from (length ss) 0 ss

-- the sections are these whole runs, one after another
pub record AreRuns (runs : List (List (List ℕ))) (ss : List (List ℕ)) : Type 0 where
  pub joined : join runs ≡ ss
  pub whole : All IsTableRun runs

-- after whole runs, a run has begun, or none yet, that the section at this place does not continue; where it is the
-- end, some sections of that run are missing
pub record StopsAt (ss : List (List ℕ)) (place : ℕ) : Type 0 where
  pub runs : List (List (List ℕ))
  pub begun : List (List ℕ)
  pub rest : List (List ℕ)
  pub joined : ss ≡ join runs ++ (begun ++ rest)
  pub there : place ≡ length (join runs) + length begun
  pub whole : All IsTableRun runs
  pub begins : BeginsRun begun
  pub not_whole : IsTableRun begun → ⊥
  pub stops : BeginsRun (begun ++ take 1 rest) → length rest ≡ 0
  pub some : 0 < length begun + length rest

-- whether a run that has begun has all its sections
abbrev pub is_full : List (List ℕ) → Bool
is_full [] = false
is_full (s ∷ ss) = nat_eq (length (s ∷ ss)) (whole_size s)

-- a call returned the run of the sections, the first of which has this place, or where they stop being one
abbrev pub ClosesRun : {X : Type 0} → ℕ → List (List ℕ) → (X → List (List ℕ)) → Result X NoRuns → Type 0
ClosesRun place ss view (Ok run) = (view run ≡ ss) × IsTableRun ss
ClosesRun place ss view (Err (faults.Place at)) = (within : ℕ) × (at ≡ place + within) × IsRunFault ss within
ClosesRun place ss view (Err faults.NoMemory) = ⊥

-- a place is that of one of so many sections, or their end
abbrev pub IsWithin : ℕ → NoRuns → Type 0
IsWithin count (faults.Place place) = place ≤ count
IsWithin count faults.NoMemory = Unit {0}

-- a call refused what dividing refuses; out of memory says nothing about the sections
abbrev pub DividesAt : NoRuns → Result (List (List (List ℕ))) ℕ → Type 0
DividesAt (faults.Place place) divided = divided ≡ Err place
DividesAt faults.NoMemory divided = Unit {0}

-- the result of a call is what dividing gives; out of memory says nothing about the sections
abbrev pub Divides : {X : Type 0} → (X → List (List (List ℕ))) → Result X NoRuns → Result (List (List (List ℕ))) ℕ → Type 0
Divides view (Ok x) divided = divided ≡ Ok (view x)
Divides view (Err fault) divided = DividesAt fault divided
