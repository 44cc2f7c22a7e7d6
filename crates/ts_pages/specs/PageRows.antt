-- The functions by which pages are written.
-- This project's own rule: a page has a tag, a name and rows; each row is a name and a kind of field.
use Rattle.std.specs.Prelude.{ℕ, List, [], ◌++◌, length, Some, None}
use Rattle.ts_fields.specs.declared.field.Kind.{Kind}
use Rattle.ts_fields.specs.declared.field.Kind.TheVariants.{Ones}
use Rattle.ts_fields.specs.Layout.{Row}
use Rattle.ts_fields.specs.Bodies.{Page}

-- a field that JSON requires, with any number of its width
abbrev pub field : List ℕ → Kind → Row
field called kind = record { name = called; kind = kind; absent = None; range = None }

-- this many reserved bits, which must be ones
abbrev pub reserved : ℕ → Row
reserved count = field [] (Ones count)

-- a page of fields alone
abbrev pub of_fields : ℕ → List ℕ → List Row → Page
of_fields number called rows = record { tag = number; name = called; head = rows; items = None; counted = None }

-- a page of fields, and of items after them up to the end
abbrev pub with_items : ℕ → List ℕ → List Row → List ℕ → List Row → Page
with_items number called rows item each =
    record { tag = number; name = called; head = rows; items = Some (item, each); counted = None }

-- a page of items alone, up to the end
abbrev pub of_items : ℕ → List ℕ → List ℕ → List Row → Page
of_items number called item each = with_items number called [] item each

-- a page of fields, of items with a length of 8 bits before them, and of fields after them
abbrev pub around_items : ℕ → List ℕ → List Row → List ℕ → List Row → List Row → Page
around_items number called front item each back = record {
  tag = number;
  name = called;
  head = front ++ back;
  items = Some (item, each);
  counted = Some (length front);
}
