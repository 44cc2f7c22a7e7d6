-- The attributes of a table's element, in order.
-- This project's own rule: the fields of the head come first, then those of the body in the standard's order; the
-- section numbers of a table that keeps them come after the fields that are equal in all sections.
use Rattle.std.specs.Prelude.{ℕ, ◌&&◌, List, [], ◌∷◌, ◌++◌, codes, Bool, true, false, nat_eq, nat_le, if◌then◌else◌, Option, Some, None}
use Rattle.ts_fields.specs.declared.field.Kind.{Kind}
use Rattle.ts_fields.specs.declared.field.Kind.TheVariants.{Number, Flag, Hex}
use Rattle.ts_fields.specs.Layout.{Row}
use Rattle.ts_table_rows.specs.TablePages.{TablePage}

-- a number that is required
abbrev pub number_row : List ℕ → ℕ → Option (ℕ × ℕ) → Row
number_row called count range = record { name = called; kind = Number count; absent = None; range = range }

-- a number or a flag that may be absent
abbrev pub row_or : List ℕ → Kind → ℕ → Row
row_or called kind default = record { name = called; kind = kind; absent = Some default; range = None }

-- bytes, at most this many
abbrev pub payload_row : ℕ → Row
payload_row most = record { name = codes "payload"; kind = Hex; absent = None; range = Some (0, most) }

-- version_number, 0 by default
abbrev pub version_row : Row
version_row = row_or (codes "version") (Number 5) 0

-- current_next_indicator, 1 by default
abbrev pub current_row : Row
current_row = row_or (codes "current") Flag 1

-- whether a table of two table_ids has the first, which is the default
abbrev pub actual_row : Row
actual_row = row_or (codes "actual") Flag 1

-- the bit after section_syntax_indicator, 1 by default
abbrev pub private_row : Row
private_row = row_or (codes "private") Flag 1

-- section_number, 0 by default
abbrev pub section_number_row : Row
section_number_row = row_or (codes "section_number") (Number 8) 0

-- last_section_number, 0 by default
abbrev pub last_section_number_row : Row
last_section_number_row = row_or (codes "last_section_number") (Number 8) 0

-- a required table_id in a range
abbrev pub table_id_row : ℕ × ℕ → Row
table_id_row range = number_row (codes "table_id") 8 (Some range)

-- a required table_id_extension under this name
abbrev pub extension_row : List ℕ → Row
extension_row called = number_row called 16 None

-- the key of the PID of the entry with number 0
abbrev pub network_key : List ℕ
network_key = codes "network_PID"

-- the PID of the entry with number 0
abbrev pub network_row : Row
network_row = number_row network_key 13 None

-- which table_id a table has: no row where there is one; with two, whether it is the first; else the number
abbrev pub id_rows : List (ℕ × ℕ) → List Row
id_rows [] = []
id_rows (x ∷ []) = if nat_eq x.0 x.1 then [] else table_id_row x ∷ []
id_rows (x ∷ y ∷ more) = actual_row ∷ []

-- table_id_extension, where it is not reserved
abbrev pub extension_rows : List ℕ → List Row
extension_rows [] = []
extension_rows (c ∷ cs) = extension_row (c ∷ cs) ∷ []

-- the fields of the head
abbrev pub first_rows : TablePage → List Row
first_rows p = version_row ∷ current_row ∷ (id_rows p.ids ++ extension_rows p.extension)

-- section_number and last_section_number, where they are kept
abbrev pub kept_rows : Bool → List Row
kept_rows false = []
kept_rows true = section_number_row ∷ last_section_number_row ∷ []

-- the PID of the entry with number 0, where there is one
abbrev pub network_rows : Bool → List Row
network_rows false = []
network_rows true = network_row ∷ []

-- the attributes of a table of a page, with or without the PID of the entry with number 0
abbrev pub element_rows : TablePage → Bool → List Row
element_rows p network =
    first_rows p ++ (p.common ++ (kept_rows p.keeps_numbers ++ (p.head ++ network_rows network)))

-- whether a table_id is one of an EIT, whose sections are tables by themselves (ETSI EN 300 468, 5.2.4)
abbrev pub is_eit_id : ℕ → Bool
is_eit_id id = nat_le 78 id && nat_le id 111

-- the element name of a table of the short form that is given by its bytes
abbrev pub short_name : List ℕ
short_name = codes "generic_short_table"

-- the element name of a table of the long form that is given by its bytes
abbrev pub long_name : List ℕ
long_name = codes "generic_long_table"

-- the element name of the body of one section
abbrev pub section_name : List ℕ
section_name = codes "section"

-- the attributes of a section of the short form
abbrev pub short_rows : List Row
short_rows = table_id_row (0, 254) ∷ private_row ∷ payload_row 4093 ∷ []

-- the attributes of sections of the long form, with or without their numbers
abbrev pub long_rows : Bool → List Row
long_rows kept =
    version_row ∷ current_row ∷ table_id_row (0, 254) ∷ extension_row (codes "table_id_extension") ∷ private_row
    ∷ kept_rows kept

-- the attribute of the body of one section
abbrev pub section_rows : List Row
section_rows = payload_row 4084 ∷ []
