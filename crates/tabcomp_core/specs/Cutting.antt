-- Bytes as sections one after another.
-- ISO/IEC 13818-1, 2.4.4: a section is three bytes and section_length more. That a fault is reported with the place
-- where the first invalid one begins is this project's own rule.
use Rattle.std.specs.Prelude.{◌≡◌, ℕ, zero, suc, ◌+◌, List, [], ◌∷◌, length, drop, Option, Some, None, Result, Ok, Err}
use Rattle.ts_section.specs.declared.fault.SectionFault.{SectionFault}
use Rattle.ts_section.specs.FirstBroken.{first_broken}
use Rattle.ts_section.specs.SectionFields.{front_of}
use Rattle.tabcomp_core.specs.declared.fault.DecompileFault.{DecompileFault}
use Rattle.tabcomp_core.specs.declared.fault.DecompileFault.TheVariants as faults

-- the offset of a section and the first rule that it breaks
pub record FaultAt : Type 0 where
  pub offset : ℕ
  pub fault : SectionFault

-- a section before those after it
abbrev pub before_more : List ℕ → Result (List (List ℕ)) FaultAt → Result (List (List ℕ)) FaultAt
before_more s (Ok more) = Ok (s ∷ more)
before_more s (Err fault) = Err fault

-- the fault of a section at this offset, or the section before those after it
abbrev pub if_valid : Option SectionFault → ℕ → List ℕ → Result (List (List ℕ)) FaultAt → Result (List (List ℕ)) FaultAt
if_valid (Some fault) offset s more = Err (record { offset = offset; fault = fault })
if_valid None offset s more = before_more s more

-- the sections in the bytes, the first of which has this offset; `most` is at least the number of bytes
unfoldable pub sections_from : ℕ → ℕ → List ℕ → Result (List (List ℕ)) FaultAt
sections_from most offset [] = Ok []
sections_from zero offset (b ∷ bs) = Ok []
sections_from (suc most) offset (b ∷ bs) =
    if_valid (first_broken (front_of (b ∷ bs))) offset (front_of (b ∷ bs))
    (sections_from most (offset + length (front_of (b ∷ bs))) (drop (length (front_of (b ∷ bs))) (b ∷ bs)))

-- the sections in the bytes, or the first that is invalid
abbrev pub sections_in : List ℕ → Result (List (List ℕ)) FaultAt
sections_in bytes = sections_from (length bytes) 0 bytes

-- a call refused what cutting refuses; out of memory says nothing about the bytes
abbrev pub CutsAt : DecompileFault → Result (List (List ℕ)) FaultAt → Type 0
CutsAt (faults.Section offset fault) cut = cut ≡ Err (record { offset = offset; fault = fault })
CutsAt (faults.Sequence offset) cut = ⊥
CutsAt faults.NoMemory cut = Unit {0}

-- the result of a call is what cutting gives; out of memory says nothing about the bytes
abbrev pub Cuts : {X : Type 0} → (X → List (List ℕ)) → Result X DecompileFault → Result (List (List ℕ)) FaultAt → Type 0
Cuts view (Ok x) cut = cut ≡ Ok (view x)
Cuts view (Err fault) cut = CutsAt fault cut

-- a call returned the section at the beginning of the bytes, or the first rule that it breaks
abbrev pub CutsFront : ℕ → List ℕ → {X : Type 0} → (X → List ℕ) → Result X DecompileFault → Type 0
CutsFront offset bytes view (Ok x) = (first_broken (front_of bytes) ≡ None) × (view x ≡ front_of bytes)
CutsFront offset bytes view (Err (faults.Section at fault)) = (at ≡ offset) × (first_broken (front_of bytes) ≡ Some fault)
CutsFront offset bytes view (Err (faults.Sequence at)) = ⊥
CutsFront offset bytes view (Err faults.NoMemory) = Unit {0}
