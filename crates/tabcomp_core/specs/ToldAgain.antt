-- What compiled sections are decompiled to.
-- This project's own rule: the sections of a text's tables are decompiled to the text of the tables that these sections
-- give: the same tables, except one given by its bytes whose sections read as the table of their table_id.
use Rattle.std.specs.Prelude.{◌≡◌, ℕ, List, map, Some, Ok}
use Rattle.serde_json.specs.Data.{Data}
use Rattle.ts_json_tables.specs.HeldTables.{TableValue}
use Rattle.ts_json_tables.specs.ToldTables.{told_again}
use Rattle.tabcomp_core.specs.Compiling.{compiled, json_of, tables_read}
use Rattle.tabcomp_core.specs.Decompiling.{decompiled, tables_text}

-- a text has tables, and these sections are decompiled to the text of the tables that theirs give
pub record IsToldAgain (text sections : List ℕ) : Type 0 where
  pub value : Data
  pub tables : List TableValue
  pub is_json : json_of text ≡ Some value
  pub read : tables_read value ≡ Ok tables
  pub again : decompiled sections ≡ Ok (tables_text (map told_again tables))

-- the sections that a text is compiled to, where it has some, are decompiled to that text
abbrev pub IsSameAgain : List ℕ → Type 0
IsSameAgain text = (sections : List ℕ) → compiled text ≡ Ok sections → decompiled sections ≡ Ok text
