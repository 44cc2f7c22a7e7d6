-- The functions by which the rows of layouts and the values of flags are written.
-- This project's own rule: a row is a field with a name, or reserved bits without one; a flag is 0 or 1.
use Rattle.std.specs.Prelude.{ℕ, Bool, List, [], Some, None}
use Rattle.std.specs.Int.{from_bool}
use Rattle.ts_fields.specs.declared.field.Kind.{Kind}
use Rattle.ts_fields.specs.declared.field.Kind.TheVariants.{Free}
use Rattle.ts_fields.specs.Layout.{Row, Held, number}

-- a field with a name
abbrev pub field : List ℕ → Kind → Row
field called kind = record { name = called; kind = kind; absent = None; range = None }

-- the same, with the number that an absent JSON attribute stands for
abbrev pub field_or : List ℕ → Kind → ℕ → Row
field_or called kind n = record { name = called; kind = kind; absent = Some n; range = None }

-- reserved bits
abbrev pub reserved : ℕ → Row
reserved count = field [] (Free count)

-- the value of a flag: 1 where it is set
abbrev pub flag : Bool → Held
flag set = number (from_bool set)
