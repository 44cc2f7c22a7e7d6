-- Tables written in JSON, and their sections.
-- This project's own rule: a text is an element `tsduck` whose children are tables; their sections are joined in order.
use Rattle.std.specs.Prelude.{◌≡◌, ℕ, ◌+◌, List, [], ◌∷◌, ◌++◌, codes, if◌then◌else◌, Option, Some, None, Result, Ok, Err}
use Rattle.std.specs.List.{concat}
use Rattle.std.specs.Str.{is_utf8}
use Rattle.serde_json.specs.Data.{Data}
use Rattle.serde_json.specs.Read.{read}
use Rattle.ts_jtree.specs.Elements.{read_element}
use Rattle.ts_jtree.specs.Faults.{Reading, ◌>>=◌}
use Rattle.ts_table_rows.specs.declared.fault.TableRefusal.{TableRefusal}
use Rattle.ts_json_tables.specs.HeldTables.{TableValue}
use Rattle.ts_json_tables.specs.RunTables.{sections_of_table}
use Rattle.ts_json_tables.specs.TableReading.{read_each, table_read}
use Rattle.tabcomp_core.specs.declared.fault.CompileFault.{CompileFault}
use Rattle.tabcomp_core.specs.declared.fault.CompileFault.TheVariants.{NotJson, Json, TooLarge, NoMemory}

-- the name of the root
abbrev pub root_name : List ℕ
root_name = codes "tsduck"

-- the tables of the root, or its first fault
unfoldable pub tables_read : Data → Reading (List TableValue)
tables_read value = do
  root ← read_element root_name [] value
  read_each table_read 0 root.1

-- the JSON value of bytes; none where they are not UTF-8 or not JSON
abbrev pub text_read : Option (List ℕ) → Option Data
text_read None = None
text_read (Some text) = read text

-- the JSON value of bytes as UTF-8
abbrev pub json_of : List ℕ → Option Data
json_of text = text_read (if is_utf8 text then Some text else None)

-- the bytes of a table's sections before others
abbrev pub before_others : ℕ → Result (List (List ℕ)) TableRefusal → Result (List ℕ) CompileFault → Result (List ℕ) CompileFault
before_others place (Err refusal) more = Err (TooLarge place refusal)
before_others place (Ok ss) (Ok rest) = Ok (concat ss ++ rest)
before_others place (Ok ss) (Err fault) = Err fault

-- the sections of tables, or the first table that has none; the first of them has this number
unfoldable pub tables_bytes : ℕ → List TableValue → Result (List ℕ) CompileFault
tables_bytes place [] = Ok []
tables_bytes place (t ∷ ts) = before_others place (sections_of_table t) (tables_bytes (place + 1) ts)

-- the value; `NotJson` where there is none
abbrev pub value_or_not : Option Data → Result Data CompileFault
value_or_not None = Err NotJson
value_or_not (Some value) = Ok value

-- the JSON value of a text, or `NotJson`
abbrev pub json_value : List ℕ → Result Data CompileFault
json_value text = value_or_not (json_of text)

-- the bytes of the sections of the tables, or why there are none
abbrev pub of_tables : Reading (List TableValue) → Result (List ℕ) CompileFault
of_tables (Err fault) = Err (Json fault)
of_tables (Ok tables) = tables_bytes 0 tables

-- the bytes of the sections of the tables of a value; `NotJson` where there is none
abbrev pub of_value : Option Data → Result (List ℕ) CompileFault
of_value None = Err NotJson
of_value (Some value) = of_tables (tables_read value)

-- what a text is compiled to
abbrev pub compiled : List ℕ → Result (List ℕ) CompileFault
compiled text = of_value (json_of text)

-- a call refused what compiling refuses; out of memory says nothing about the text
abbrev pub Refuses : {A : Type 0} → CompileFault → Result A CompileFault → Type 0
Refuses NotJson result = result ≡ Err NotJson
Refuses (Json fault) result = result ≡ Err (Json fault)
Refuses (TooLarge place refusal) result = result ≡ Err (TooLarge place refusal)
Refuses NoMemory result = Unit {0}

-- the result of a call is what compiling gives; out of memory says nothing about the text
abbrev pub Compiles : {X A : Type 0} → (X → A) → Result X CompileFault → Result A CompileFault → Type 0
Compiles view (Ok x) result = result ≡ Ok (view x)
Compiles view (Err fault) result = Refuses fault result

-- a call appended the bytes of a table's sections, or refused as the writing of that table does
abbrev pub TakesTable : ℕ → List ℕ → List ℕ → Result (List (List ℕ)) TableRefusal → Result Unit CompileFault → Type 0
TakesTable place old new sections (Ok x) = (ss : List (List ℕ)) × (sections ≡ Ok ss) × (new ≡ old ++ concat ss)
TakesTable place old new sections (Err (TooLarge at refusal)) = (at ≡ place) × (sections ≡ Err refusal)
TakesTable place old new sections (Err NoMemory) = Unit {0}
TakesTable place old new sections (Err NotJson) = ⊥
TakesTable place old new sections (Err (Json fault)) = ⊥
