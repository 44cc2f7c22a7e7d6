-- Rows of the tables of the standard, and the values of their fields.
-- This project's own rule: a table of the standard is a list of rows, each with a name and a kind of field.
use Rattle.std.specs.Prelude.{ℕ, List, map, Option}
use Rattle.ts_fields.specs.declared.field.Kind.{Kind}
use Rattle.ts_fields.specs.declared.field.Field.{Field}
use Rattle.ts_fields.specs.declared.field.FieldValue.{FieldValue}
use Rattle.ts_fields.specs.declared.field.FieldValue.TheVariants as values

-- a row: its name, its kind, the number that an absent JSON attribute stands for, and the least and the greatest
-- number in JSON, or number of bytes of data, where the width alone does not decide
pub record Row : Type 0 where
  pub name : List ℕ
  pub kind : Kind
  pub absent : Option ℕ
  pub range : Option (ℕ × ℕ)

-- the value of a field: a number, or the bytes of a text or of data
pub data Held : Type 0 where
  number : ℕ → Held
  bytes : List ℕ → Held

-- the row of a row of the code
abbrev pub row : Field → Row
row f = record { name = f.name.now; kind = f.kind; absent = f.absent; range = f.range }

-- the rows of a list of the code
abbrev pub rows_of : List Field → List Row
rows_of fields = map row fields

-- the value of a value of the code
abbrev pub held : FieldValue → Held
held (values.Number n) = number n
held (values.Bytes b) = bytes b.items
