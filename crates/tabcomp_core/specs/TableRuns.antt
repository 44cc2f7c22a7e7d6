-- The runs of tables in bytes.
-- This project's own rule: the bytes are sections one after another, and the sections are runs; where a run stops is
-- reported as the offset of the section at which it does.
use Rattle.std.specs.Prelude.{◌≡◌, ℕ, ◌+◌, ◌≤◌, slice_index, List, length, take, Result, Ok, Err}
use Rattle.std.specs.List.{concat}
use Rattle.tabcomp_core.specs.declared.fault.DecompileFault.{DecompileFault}
use Rattle.tabcomp_core.specs.declared.fault.DecompileFault.TheVariants.{Section, Sequence, NoMemory}
use Rattle.tabcomp_core.specs.Cutting.{FaultAt, sections_in}
use Rattle.tabcomp_core.specs.Dividing.{runs_in}

-- the runs of the sections, or the offset of the first section at which no run continues; for the end, the number of
-- bytes
abbrev pub of_runs : List (List ℕ) → Result (List (List (List ℕ))) ℕ → Result (List (List (List ℕ))) DecompileFault
of_runs ss (Ok runs) = Ok runs
of_runs ss (Err place) = Err (Sequence (length (concat (take place ss))))

-- the runs of the sections, or the first fault
abbrev pub of_sections : Result (List (List ℕ)) FaultAt → Result (List (List (List ℕ))) DecompileFault
of_sections (Ok ss) = of_runs ss (runs_in ss)
of_sections (Err fault) = Err (Section fault.offset fault.fault)

-- the runs in the bytes; an invalid section is reported before any section at which no run continues
abbrev pub table_runs : List ℕ → Result (List (List (List ℕ))) DecompileFault
table_runs bytes = of_sections (sections_in bytes)

-- where sections one after another begin, and where they end
pub record AreStarts (ss : List (List ℕ)) (starts : List ℕ) : Type 0 where
  pub each : (k : ℕ) → k ≤ length ss → slice_index starts k ≡ length (concat (take k ss))
  pub count : length starts ≡ length ss + 1

-- a call refused what decompiling refuses; out of memory says nothing about the bytes
abbrev pub Declines : {A : Type 0} → DecompileFault → Result A DecompileFault → Type 0
Declines (Section offset fault) result = result ≡ Err (Section offset fault)
Declines (Sequence offset) result = result ≡ Err (Sequence offset)
Declines NoMemory result = Unit {0}

-- the result of a call is what decompiling gives; out of memory says nothing about the bytes
abbrev pub Decompiles : {X A : Type 0} → (X → A) → Result X DecompileFault → Result A DecompileFault → Type 0
Decompiles view (Ok x) result = result ≡ Ok (view x)
Decompiles view (Err fault) result = Declines fault result
