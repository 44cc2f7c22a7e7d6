-- The sections of a file of tables. This project's own rule: a file whose name ends in `.json` is a text of
-- tables, and has the sections that it is compiled to; any other file is sections one after another. Neither
-- has more bytes than `most_bytes`; a file without bytes is valid and has no sections.
use Rattle.std.specs.Prelude.{◌≡◌, ℕ, List, length, drop, ◌-◌, Bool, bytes_eq, nat_lt, codes, if◌then◌else◌, Result, Ok, Err}
use Rattle.tabcomp_core.specs.declared.fault.CompileFault.{CompileFault}
use Rattle.tabcomp_core.specs.declared.fault.DecompileFault.TheVariants.{Section}
use Rattle.tabcomp_core.specs.Compiling.{compiled}
use Rattle.tabcomp_core.specs.Cutting.{FaultAt, sections_in}
use Rattle.tabcomp_core.specs.declared.table_file_fault.TableFileFault.{TableFileFault}
use Rattle.tabcomp_core.specs.declared.table_file_fault.TableFileFault.TheVariants.{TooMany, Compile, Sections}
use Rattle.tabcomp_core.specs.declared.table_file_fault.NoTables.{NoTables}
use Rattle.tabcomp_core.specs.declared.table_file_fault.NoTables.TheVariants.{Refused, NoMemory}

-- the greatest size of a file of tables in bytes
abbrev pub most_bytes : ℕ
most_bytes = 16777216

-- the ending of the name of a JSON text of tables
abbrev pub json_ending : List ℕ
json_ending = codes ".json"

-- whether a name ends as that of a JSON text of tables
abbrev pub is_json_name : List ℕ → Bool
is_json_name name = bytes_eq (drop (length name - length json_ending) name) json_ending

-- the sections in the bytes, or the first that is invalid
abbrev pub of_sections : Result (List (List ℕ)) FaultAt → Result (List (List ℕ)) TableFileFault
of_sections (Ok sections) = Ok sections
of_sections (Err fault) = Err (Sections (Section fault.offset fault.fault))

-- the sections that a text is compiled to, or why it has none
abbrev pub of_compiled : Result (List ℕ) CompileFault → Result (List (List ℕ)) TableFileFault
of_compiled (Ok bytes) = of_sections (sections_in bytes)
of_compiled (Err fault) = Err (Compile fault)

-- the sections of a file of this name with these bytes, or why it has none
unfoldable pub sections_of_file : List ℕ → List ℕ → Result (List (List ℕ)) TableFileFault
sections_of_file name bytes =
    if nat_lt most_bytes (length bytes) then Err TooMany
    else (if is_json_name name then of_compiled (compiled bytes) else of_sections (sections_in bytes))

-- the result is what the file has; out of memory says nothing about it
abbrev pub TellsSections : {X : Type 0} → (X → List (List ℕ)) → Result X NoTables → Result (List (List ℕ)) TableFileFault → Type 0
TellsSections view (Ok x) file = file ≡ Ok (view x)
TellsSections view (Err (Refused fault)) file = file ≡ Err fault
TellsSections view (Err NoMemory) file = Unit {0}
