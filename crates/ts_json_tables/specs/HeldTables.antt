-- The values of tables.
-- This project's own rule: a table is of a known page, or is kept as the bytes of its sections' bodies.
use Rattle.std.specs.Prelude.{ℕ, List, map, Bool}
use Rattle.ts_table_rows.specs.TablePages.{TablePage, table_page}
use Rattle.ts_table_rows.specs.TableValues.{TableHolding, table_held}
use Rattle.ts_json_tables.specs.declared.table.LaidTable.{LaidTable}
use Rattle.ts_json_tables.specs.declared.table.ShortTable.{ShortTable}
use Rattle.ts_json_tables.specs.declared.table.LongTable.{LongTable}
use Rattle.ts_json_tables.specs.declared.table.Table.{Table}
use Rattle.ts_json_tables.specs.declared.table.Table.TheVariants as kinds

-- one section of the short form
pub record ShortHolding : Type 0 where
  pub table_id : ℕ
  pub own : Bool
  pub payload : List ℕ

-- sections of the long form: the fields that their heads share, the private bit of the first, the first number and the
-- last where the table keeps them, and the bodies
pub record LongHolding : Type 0 where
  pub version : ℕ
  pub current : Bool
  pub table_id : ℕ
  pub extension : ℕ
  pub own : Bool
  pub numbers : ℕ × ℕ
  pub payloads : List (List ℕ)

-- a table of a page, or given by its bytes
pub data TableValue : Type 0 where
  laid : TablePage → TableHolding → TableValue
  short : ShortHolding → TableValue
  long : LongHolding → TableValue

-- the value of a table of a layout in the code
abbrev pub laid_value : LaidTable → TableValue
laid_value t = laid (table_page t.layout.now) (table_held t.held)

-- the value of a section of the short form in the code
abbrev pub short_held : ShortTable → ShortHolding
short_held t = record { table_id = t.table_id; own = t.private; payload = t.payload.items }

-- the value of sections of the long form in the code
abbrev pub long_held : LongTable → LongHolding
long_held t = record {
  version = t.version;
  current = t.current;
  table_id = t.table_id;
  extension = t.table_id_extension;
  own = t.private;
  numbers = (t.section_number, t.last_section_number);
  payloads = map (λ p. p.items) t.payloads.items;
}

-- the value of a table in the code
abbrev pub table_value : Table → TableValue
table_value (kinds.Laid t) = laid_value t
table_value (kinds.Short t) = short (short_held t)
table_value (kinds.Long t) = long (long_held t)
