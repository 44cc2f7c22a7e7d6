-- Tables as JSON elements.
-- This project's own rule: the attributes of `ElementRows`, and as children the table's descriptors and then its items;
-- a first entry with number 0 is an attribute. Bytes are lower case hexadecimal digits.
use Rattle.std.specs.Prelude.{ℕ, ◌&&◌, List, [], ◌∷◌, ◌++◌, codes, map, drop, Bool, true, false, nat_eq, if◌then◌else◌, Option, Some, None}
use Rattle.serde_json.specs.Data.{Data, object, array}
use Rattle.serde_json.specs.View.{items_of}
use Rattle.ts_bits.specs.TaggedBody.{TaggedBody}
use Rattle.ts_fields.specs.Bits.{bits_of}
use Rattle.ts_fields.specs.Bodies.{Holding, Page, read_page}
use Rattle.ts_fields.specs.Layout.{Held, number, bytes}
use Rattle.ts_jtree.specs.Numbers.{truth_bit}
use Rattle.ts_jtree.specs.Shown.{element_members}
use Rattle.ts_json_descr.specs.DescrElements.{body_shown, descr_shown}
use Rattle.ts_table_rows.specs.declared.table.TableHead.{TableHead}
use Rattle.ts_table_rows.specs.TablePages.{ItemPage, TablePage}
use Rattle.ts_table_rows.specs.TableValues.{ItemHolding, BodyHolding, TableHolding}
use Rattle.ts_table_rows.specs.BodyReading.{first_number, is_zero}
use Rattle.ts_table_rows.specs.BodySpelling.{common_values, head_values}
use Rattle.ts_json_tables.specs.ElementRows.{element_rows, is_eit_id, long_name, long_rows, section_name, section_rows, short_name, short_rows}
use Rattle.ts_json_tables.specs.HeldTables.{ShortHolding, LongHolding, TableValue, laid, short, long}
use Rattle.ts_json_tables.specs.ShortPages.{short_page_of}
use Rattle.ts_json_tables.specs.TimeOffsets.{OffsetHolding, tot_id, tot_of, tot_rows}

-- a Boolean as a field holds it
abbrev pub truth : Bool → Held
truth b = number (truth_bit b)

-- the value for the table_id of a table: none where there is one table_id; with two, whether it is the first; else it
abbrev pub id_values : List (ℕ × ℕ) → ℕ → List Held
id_values [] id = []
id_values (x ∷ []) id = if nat_eq x.0 x.1 then [] else number id ∷ []
id_values (x ∷ y ∷ more) id = truth (nat_eq id x.0) ∷ []

-- the value of table_id_extension, where it is not reserved
abbrev pub extension_values : List ℕ → ℕ → List Held
extension_values [] extension = []
extension_values (c ∷ cs) extension = number extension ∷ []

-- the values of the attributes of the head
abbrev pub first_values : TablePage → TableHead → List Held
first_values p h =
    number h.version ∷ truth h.current ∷ (id_values p.ids h.table_id ++ extension_values p.extension h.extension)

-- the section numbers, where they are kept
abbrev pub kept_values : Option (ℕ × ℕ) → List Held
kept_values None = []
kept_values (Some n) = number n.0 ∷ number n.1 ∷ []

-- whether the first item has the number 0, in a table that may have such an item
abbrev pub begins_with_zero : Bool → List ItemHolding → Bool
begins_with_zero one_zero [] = false
begins_with_zero one_zero (x ∷ xs) = one_zero && is_zero (first_number x.values)

-- the values after the 0 of such an item
abbrev pub values_after : List ItemHolding → List Held
values_after [] = []
values_after (x ∷ xs) = drop 1 x.values

-- the values after the 0 of the first item, where that has the number 0
abbrev pub network_values : Bool → List ItemHolding → List Held
network_values one_zero items = if begins_with_zero one_zero items then values_after items else []

-- the items that are children
abbrev pub shown_items : Bool → List ItemHolding → List ItemHolding
shown_items one_zero items = if begins_with_zero one_zero items then drop 1 items else items

-- the values of the attributes of a table of a page
abbrev pub element_values : TablePage → TableHolding → List Held
element_values p t =
    first_values p t.head
    ++ (common_values p t.body.values
    ++ (kept_values t.head.numbers
    ++ (head_values p t.body.values ++ network_values p.one_zero t.body.items)))

-- the elements of some descriptors
abbrev pub descrs_shown : List TaggedBody → List Data
descrs_shown ds = map descr_shown ds

-- the children of an item, where the layout has descriptors
abbrev pub described_shown : Bool → List TaggedBody → Option Data
described_shown false ds = None
described_shown true ds = Some (array (items_of (descrs_shown ds)))

-- the element of an item
abbrev pub item_shown : ItemPage → ItemHolding → Data
item_shown i x = object (element_members i.rows i.name (described_shown i.described x.descriptors) x.values)

-- the elements of the items, where the page has items
abbrev pub items_shown : Option ItemPage → List ItemHolding → List Data
items_shown None items = []
items_shown (Some i) items = map (item_shown i) items

-- the children of a table, its descriptors first
abbrev pub children_shown : TablePage → BodyHolding → List Data
children_shown p b = descrs_shown b.descriptors ++ items_shown p.items (shown_items p.one_zero b.items)

-- the element of a table of a page
abbrev pub laid_shown : TablePage → TableHolding → Data
laid_shown p t = object (element_members (element_rows p (begins_with_zero p.one_zero t.body.items)) p.name
    (Some (array (items_of (children_shown p t.body)))) (element_values p t))

-- the values of the attributes of a section of the short form
abbrev pub short_values : ShortHolding → List Held
short_values s = number s.table_id ∷ truth s.own ∷ bytes s.payload ∷ []

-- the element of a section of the short form that is given by its bytes
abbrev pub generic_shown : ShortHolding → Data
generic_shown s = object (element_members short_rows short_name None (short_values s))

-- the element of a section that a page reads, or does not
abbrev pub read_shown : Page → Option Holding → ShortHolding → Data
read_shown p None s = generic_shown s
read_shown p (Some h) s = body_shown p h

-- the element of a section whose table_id may have a page
abbrev pub paged_shown : Option Page → ShortHolding → Data
paged_shown None s = generic_shown s
paged_shown (Some p) s = read_shown p (read_page p (bits_of s.payload)) s

-- the element name of a TOT
abbrev pub tot_name : List ℕ
tot_name = codes "TOT"

-- the element of a TOT
abbrev pub tot_shown : OffsetHolding → Data
tot_shown t = object (element_members tot_rows tot_name (Some (array (items_of (descrs_shown t.descriptors)))) t.values)

-- the element of a section that is a TOT, or is not
abbrev pub tot_or_bytes : Option OffsetHolding → ShortHolding → Data
tot_or_bytes None s = generic_shown s
tot_or_bytes (Some t) s = tot_shown t

-- the element of a section of the short form: of a TOT or a page exactly where its private bit is 1, as those of DVB are,
-- and its bytes read so
abbrev pub short_shown : ShortHolding → Data
short_shown s =
    if s.own then (if nat_eq s.table_id tot_id then tot_or_bytes (tot_of s.payload) s else paged_shown (short_page_of s.table_id) s)
    else generic_shown s

-- the element of a section's body
abbrev pub section_shown : List ℕ → Data
section_shown payload = object (element_members section_rows section_name None (bytes payload ∷ []))

-- the values of the attributes of sections of the long form; only an EIT has its numbers
abbrev pub long_values : LongHolding → List Held
long_values l =
    number l.version ∷ truth l.current ∷ number l.table_id ∷ number l.extension ∷ truth l.own
    ∷ kept_values (if is_eit_id l.table_id then Some l.numbers else None)

-- the element of sections of the long form
abbrev pub long_shown : LongHolding → Data
long_shown l = object (element_members (long_rows (is_eit_id l.table_id)) long_name
    (Some (array (items_of (map section_shown l.payloads)))) (long_values l))

-- the element of a table
abbrev pub table_shown : TableValue → Data
table_shown (laid p t) = laid_shown p t
table_shown (short s) = short_shown s
table_shown (long l) = long_shown l
