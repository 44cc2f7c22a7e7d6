-- Running out of memory is not a fault of a file.
use Rattle.std.proofs.Common.{◌≡◌, ℕ, ◌+◌, List, [], ◌∷◌, ◌<◌, length, arith, Bool, true, false, if◌then◌else◌, nat_lt, Option, None, Some, Result, Ok, Err}
use Rattle.std.proofs.lemmas.Bool.{cond-true}
use Rattle.std.proofs.lemmas.Bool.Decides.{nat_tests}
use Rattle.serde_json.specs.Data.{Data}
use Rattle.ts_jtree.specs.Faults.{Reading}
use Rattle.ts_table_rows.specs.declared.fault.TableRefusal.{TableRefusal}
use Rattle.ts_json_tables.specs.HeldTables.{TableValue}
use Rattle.ts_json_tables.specs.RunTables.{sections_of_table}
use Rattle.tabcomp_core.specs.declared.fault.CompileFault.{CompileFault}
use Rattle.tabcomp_core.specs.declared.fault.CompileFault.TheVariants.{NoMemory}
use Rattle.tabcomp_core.specs.declared.fault.DecompileFault.TheVariants as cutting
use Rattle.tabcomp_core.specs.Compiling.{before_others, compiled, json_of, of_tables, of_value, tables_bytes, tables_read}
use Rattle.tabcomp_core.specs.Cutting.{FaultAt, sections_in}
use Rattle.tabcomp_core.specs.declared.table_file_fault.TableFileFault.{TableFileFault}
use Rattle.tabcomp_core.specs.declared.table_file_fault.TableFileFault.TheVariants.{TooMany, Compile, Sections}
use Rattle.tabcomp_core.specs.TableFiles.{is_json_name, most_bytes, of_compiled, of_sections, sections_of_file}

before-others : (place : ℕ) (one : Result (List (List ℕ)) TableRefusal) (rest : Result (List ℕ) CompileFault)
    → (rest ≡ Err NoMemory → ⊥) → before_others place one rest ≡ Err NoMemory → ⊥
before-others place (Err refusal) rest fine is = cc
before-others place (Ok ss) (Ok more) fine is = cc
before-others place (Ok ss) (Err fault) fine is = fine is

of-tables-bytes : (place : ℕ) (tables : List TableValue) → tables_bytes place tables ≡ Err NoMemory → ⊥
unfolding tables_bytes
of-tables-bytes place [] is = cc
of-tables-bytes place (t ∷ tables) is =
    before-others place (sections_of_table t) (tables_bytes (place + 1) tables) (of-tables-bytes (place + 1) tables) is

of-tables : (tables : Reading (List TableValue)) → of_tables tables ≡ Err NoMemory → ⊥
of-tables (Err fault) is = cc
of-tables (Ok tables) is = of-tables-bytes 0 tables is

of-value : (value : Option Data) → of_value value ≡ Err NoMemory → ⊥
of-value None is = cc
of-value (Some value) is = of-tables (tables_read value) is

-- sections are refused as such, and not for memory
of-sections : (cut : Result (List (List ℕ)) FaultAt) → (of_sections cut ≡ Err (Compile NoMemory) → ⊥) × (of_sections cut ≡ Err (Sections cutting.NoMemory) → ⊥)
of-sections (Ok ss) = ((λ is. cc), λ is. cc)
of-sections (Err fault) = ((λ is. cc), λ is. cc)

of-compiled : (text : Result (List ℕ) CompileFault) → (text ≡ Err NoMemory → ⊥)
    → (of_compiled text ≡ Err (Compile NoMemory) → ⊥) × (of_compiled text ≡ Err (Sections cutting.NoMemory) → ⊥)
of-compiled (Ok bytes) fine = of-sections (sections_in bytes)
of-compiled (Err fault) fine = ((λ is. fine (let same : fault ≡ NoMemory = cc in cc)), λ is. cc)

-- a file that is refused
abbrev refused : TableFileFault → Result (List (List ℕ)) TableFileFault
refused fault = Err fault

-- the cases of a file
of-file : (long text : Bool) (compiled cut : Result (List (List ℕ)) TableFileFault) (fault : TableFileFault)
    → (refused TooMany ≡ refused fault → ⊥) → (compiled ≡ refused fault → ⊥) → (cut ≡ refused fault → ⊥)
    → (if long then refused TooMany else (if text then compiled else cut)) ≡ refused fault → ⊥
of-file true text compiled cut fault not_long not_text not_cut is = not_long is
of-file false true compiled cut fault not_long not_text not_cut is = not_text is
of-file false false compiled cut fault not_long not_text not_cut is = not_cut is

pub no-memory-of-text : (name bytes : List ℕ) → sections_of_file name bytes ≡ Err (Compile NoMemory) → ⊥
unfolding sections_of_file
no-memory-of-text name bytes is =
    of-file (nat_lt most_bytes (length bytes)) (is_json_name name) (of_compiled (compiled bytes)) (of_sections (sections_in bytes)) (Compile NoMemory)
    (λ e. cc) (of-compiled (compiled bytes) (of-value (json_of bytes))).0 (of-sections (sections_in bytes)).0 is

pub no-memory-of-sections : (name bytes : List ℕ) → sections_of_file name bytes ≡ Err (Sections cutting.NoMemory) → ⊥
unfolding sections_of_file
no-memory-of-sections name bytes is =
    of-file (nat_lt most_bytes (length bytes)) (is_json_name name) (of_compiled (compiled bytes)) (of_sections (sections_in bytes)) (Sections cutting.NoMemory)
    (λ e. cc) (of-compiled (compiled bytes) (of-value (json_of bytes))).1 (of-sections (sections_in bytes)).1 is

-- a file of more bytes than it may have has no sections
pub too-long : (name bytes : List ℕ) → most_bytes < length bytes → sections_of_file name bytes ≡ Err TooMany
unfolding sections_of_file
too-long name bytes long =
    let is_long : nat_lt most_bytes (length bytes) ≡ true = grind (arith, nat_tests) in
    cond-true _ _ _ is_long
