-- Descriptors, read and written by their pages.
-- ISO/IEC 13818-1, 2.6, and ETSI EN 300 468, 6: the tag determines the page of the body.
use Rattle.std.specs.Prelude.{◌≡◌, ℕ, ◌-◌, ◌/◌, ◌^◌, ◌<◌, ◌≤◌, min, nat_eq, List, [], length, Option, Some, None, Result, Ok, Err}
use Rattle.std.specs.List.{find}
use Rattle.ts_bits.specs.TaggedBody.{TaggedBody, IsDescriptor}
use Rattle.ts_fields.specs.Bits.{bits_of}
use Rattle.ts_fields.specs.Layout.{Row, Held}
use Rattle.ts_fields.specs.Reading.{◌>>=◌}
use Rattle.ts_fields.specs.Bodies.{Page, Holding, read_page, spell_page}
use Rattle.ts_descr.specs.declared.refusal.DescrRefusal.{DescrRefusal}
use Rattle.ts_descr.specs.declared.refusal.DescrRefusal.TheVariants.{TooLarge, NoMemory}

-- the tag of a descriptor, and the values of its body by the page of that tag
pub record Typed : Type 0 where
  pub tag : ℕ
  pub holding : Holding

-- the values of a descriptor by some pages; none where no page has its tag, or its body is not of that page
unfoldable pub read_typed : List Page → TaggedBody → Option Typed
read_typed pages d = do
  p ← find (λ p. nat_eq d.tag p.tag) pages
  h ← read_page p (bits_of d.body)
  Some (record { tag = p.tag; holding = h })

-- the values of a body of fields only, and of a body of items only
abbrev pub fields_alone : List Held → Holding
fields_alone values = record { head = values; items = [] }

abbrev pub items_alone : List (List Held) → Holding
items_alone items = record { head = []; items = items }

-- a descriptor of a page of fields only, and of a page of items only
abbrev pub typed_fields : Page → List Held → Typed
typed_fields p values = record { tag = p.tag; holding = fields_alone values }

abbrev pub typed_items : Page → List (List Held) → Typed
typed_items p items = record { tag = p.tag; holding = items_alone items }

-- the rows of each item, where there are items
abbrev pub rows_after : Option (List ℕ × List Row) → List Row
rows_after None = []
rows_after (Some i) = i.1

-- the rows of each item of a page
abbrev pub item_rows : Page → List Row
item_rows p = rows_after p.items

-- the descriptor of a page with these values
pub record IsWritten (p : Page) (h : Holding) (d : TaggedBody) : Type 0 where
  pub same_tag : d.tag ≡ p.tag
  pub room : length d.body ≤ 255
  pub same_bits : bits_of d.body ≡ spell_page p h

-- a descriptor that some pages read as these values, and the only one that they do
pub record IsReadBack (pages : List Page) (t : Typed) (d : TaggedBody) : Type 0 where
  pub again : read_typed pages d ≡ Some t
  pub alone : (e : TaggedBody) → IsDescriptor e → read_typed pages e ≡ Some t → e ≡ d

-- the number of bytes of the body with these values
abbrev pub body_size : Page → Holding → ℕ
body_size p h = length (spell_page p h) / 8

-- the body would have more than 255 bytes; its length is reported, and 2^32 - 1 for any greater one
pub record IsTooLarge (p : Page) (h : Holding) (bytes : ℕ) : Type 0 where
  pub passes : 255 < body_size p h
  pub told : bytes ≡ min (body_size p h) (2 ^ 32 - 1)

-- the result of writing: the descriptor, or the number of bytes of its body; out of memory says nothing about it
abbrev pub Writes : Page → Holding → Result TaggedBody DescrRefusal → Type 0
Writes p h (Ok d) = IsWritten p h d
Writes p h (Err (TooLarge bytes)) = IsTooLarge p h bytes
Writes p h (Err NoMemory) = Unit {0}
