-- The sections of a table, or why it has none.
-- ISO/IEC 13818-1, 2.4.4, and ETSI EN 300 468, 5.2: at most 1021 or 4093 bytes follow section_length, and at most 256
-- sections have one head. How sections are filled is this project's own rule: each descriptor and each item goes into
-- the current section if that stays within the maximum, descriptors first; an empty table has one section; sections
-- are numbered from 0.
use Rattle.std.specs.Prelude.{◌≡◌, ℕ, ◌+◌, ◌-◌, ◌^◌, List, [], ◌∷◌, ◌++◌, length, map, nat_lt, if◌then◌else◌, Option, Some, None, Result, Ok, Err}
use Rattle.ts_bits.specs.TaggedBody.{TaggedBody, descriptor_bytes}
use Rattle.ts_fields.specs.Layout.{Held}
use Rattle.ts_section.specs.declared.long_head.LongHead.{LongHead}
use Rattle.ts_section.specs.WrittenSection.{long_section}
use Rattle.ts_table_rows.specs.declared.fault.TableRefusal.{TableRefusal}
use Rattle.ts_table_rows.specs.declared.fault.TableRefusal.TheVariants.{TooLarge, TooMany, NoMemory}
use Rattle.ts_table_rows.specs.declared.table.TableHead.{TableHead}
use Rattle.ts_table_rows.specs.TablePages.{ItemPage, TablePage}
use Rattle.ts_table_rows.specs.TableValues.{ItemHolding, BodyHolding, TableHolding}
use Rattle.ts_table_rows.specs.Filling.{pieces}
use Rattle.ts_table_rows.specs.BodySpelling.{item_row, body_row}

-- what sections are filled with: a descriptor of the table itself, or an item
pub data Thing : Type 0 where
  own_thing : TaggedBody → Thing
  item_thing : ItemHolding → Thing

-- the descriptors and items of a table in the order of filling, its own descriptors first
abbrev pub things : BodyHolding → List Thing
things b = map own_thing b.descriptors ++ map item_thing b.items

-- the descriptors and the items of a piece
abbrev pub owns_in : List Thing → List TaggedBody
owns_in [] = []
owns_in (own_thing d ∷ xs) = d ∷ owns_in xs
owns_in (item_thing x ∷ xs) = owns_in xs

abbrev pub items_in : List Thing → List ItemHolding
items_in [] = []
items_in (own_thing d ∷ xs) = items_in xs
items_in (item_thing x ∷ xs) = x ∷ items_in xs

-- the body with a piece
abbrev pub piece_body : List Held → List Thing → BodyHolding
piece_body values piece = record { values = values; descriptors = owns_in piece; items = items_in piece }

-- the bytes of a thing
abbrev pub thing_row : Option ItemPage → Thing → List ℕ
thing_row i (own_thing d) = descriptor_bytes d
thing_row i (item_thing x) = item_row i x

abbrev pub thing_size : TablePage → Thing → ℕ
thing_size p x = length (thing_row p.items x)

-- the section_length of a section with this body: five bytes of the head, the body, four of the CRC
abbrev pub length_with : TablePage → BodyHolding → ℕ
length_with p b = 9 + length (body_row p b)

-- the section_length of a section without descriptors and items
abbrev pub empty_length : TablePage → List Held → ℕ
empty_length p values = length_with p (piece_body values [])

-- the room of a section for descriptors and items, in bytes
abbrev pub room_in : TablePage → List Held → ℕ
room_in p values = p.most - empty_length p values

-- the size of the first thing that is larger than the room
abbrev pub first_large : TablePage → ℕ → List Thing → Option ℕ
first_large p room [] = None
first_large p room (x ∷ xs) = if nat_lt room (thing_size p x) then Some (thing_size p x) else first_large p room xs

abbrev pub plus : ℕ → Option ℕ → Option ℕ
plus n None = None
plus n (Some m) = Some (n + m)

abbrev pub above : ℕ → ℕ → Option ℕ
above most n = if nat_lt most n then Some n else None

-- the bodies of the sections
abbrev pub section_bodies : TablePage → BodyHolding → List BodyHolding
section_bodies p b =
    if p.single then b ∷ []
    else map (piece_body b.values) (pieces (thing_size p) (room_in p b.values) 0 [] (things b))

-- a section_length that is needed and above the maximum: that of the one section; else that of a section without
-- descriptors and items, or with the first of them that is too large alone
abbrev pub needed_length : TablePage → BodyHolding → Option ℕ
needed_length p b =
    if p.single then above p.most (length_with p b)
    else if nat_lt p.most (empty_length p b.values) then Some (empty_length p b.values)
    else plus (empty_length p b.values) (first_large p (room_in p b.values) (things b))

-- 2^32 - 1 stands for any greater length
abbrev pub told_length : ℕ → ℕ
told_length n = if nat_lt n (2 ^ 32) then n else 2 ^ 32 - 1

-- the head of a section
abbrev pub head_with : TablePage → TableHead → ℕ → ℕ → LongHead
head_with p h last number = record {
  table_id = h.table_id;
  private = p.private_bit;
  extension = h.extension;
  version = h.version;
  current = h.current;
  number = number;
  last = last;
}

-- the sections of some bodies, numbered from a number on
unfoldable pub numbered : TablePage → TableHead → ℕ → ℕ → List (List ℕ) → List (List ℕ)
numbered p h last number [] = []
numbered p h last number (row ∷ rows) = long_section (head_with p h last number) row ∷ numbered p h last (number + 1) rows

-- the first section number and the last: those of the table, or from 0
abbrev pub numbers_of : Option (ℕ × ℕ) → ℕ → ℕ × ℕ
numbers_of None count = (0, count - 1)
numbers_of (Some kept) count = kept

-- the sections of some bodies, which are at most 256
abbrev pub sections_with : TablePage → TableHead → List (List ℕ) → Result (List (List ℕ)) TableRefusal
sections_with p h rows =
    if nat_lt 256 (length rows) then Err TooMany
    else Ok (numbered p h (numbers_of h.numbers (length rows)).1 (numbers_of h.numbers (length rows)).0 rows)

-- a refusal with a length that is needed and above the maximum, or else the bodies
abbrev pub unless_large : Option ℕ → List (List ℕ) → Result (List (List ℕ)) TableRefusal
unless_large None rows = Ok rows
unless_large (Some n) rows = Err (TooLarge (told_length n))

-- the bodies of the sections as bytes, or why there are none
unfoldable pub body_rows : TablePage → BodyHolding → Result (List (List ℕ)) TableRefusal
body_rows p b = unless_large (needed_length p b) (map (body_row p) (section_bodies p b))

infixl 10 ◌>>=◌
abbrev pub ◌>>=◌ : {A B : Type 0} → Result A TableRefusal → (A → Result B TableRefusal) → Result B TableRefusal
(Ok x) >>= next = next x
(Err refusal) >>= next = Err refusal

-- the sections of a table, or why it has none
unfoldable pub sections_of : TablePage → TableHolding → Result (List (List ℕ)) TableRefusal
sections_of p h = do
  rows ← body_rows p h.body
  sections_with p h.head rows

-- a call refused as the rule says; out of memory says nothing about the table
abbrev pub IsRefusal : TableRefusal → Result (List (List ℕ)) TableRefusal → Type 0
IsRefusal (TooLarge n) sections = sections ≡ Err (TooLarge n)
IsRefusal TooMany sections = sections ≡ Err TooMany
IsRefusal NoMemory sections = Unit {0}

-- the result of a call is what the rule says, unless memory runs out
abbrev pub Writes : {V : Type 0} → (V → List (List ℕ)) → Result V TableRefusal → Result (List (List ℕ)) TableRefusal → Type 0
Writes view (Ok v) sections = sections ≡ Ok (view v)
Writes view (Err refusal) sections = IsRefusal refusal sections
