-- Whole bodies: fields, and after them items up to the end, or items with their length in bytes between fields.
-- ISO/IEC 13818-1, 2.6, and ETSI EN 300 468, 6.2: the loops of descriptors go on to the end of the body, or, as in 6.2.15,
-- are as long as 8 bits before them say.
use Rattle.std.specs.Prelude.{ℕ, suc, zero, ◌+◌, ◌/◌, ◌&&◌, ◌||◌, List, [], ◌∷◌, ◌++◌, length, map, take, drop, Bool, true, false, nat_eq, nat_lt, if◌then◌else◌, not, is_none, Option, Some, None, option_map}
use Rattle.std.specs.List.{flat_map, list_all}
use Rattle.ts_fields.specs.declared.layout.Layout.{Layout}
use Rattle.ts_fields.specs.declared.layout.ItemLayout.{ItemLayout}
use Rattle.ts_fields.specs.declared.layout.Body.{Body}
use Rattle.ts_fields.specs.declared.layout.Item.{Item}
use Rattle.ts_fields.specs.Layout.{Row, Held, rows_of, held}
use Rattle.ts_fields.specs.Bits.{bits, bits_of}
use Rattle.ts_fields.specs.Reading.{Front, read_number, read_bytes, read_rows, ◌>>=◌}
use Rattle.ts_fields.specs.Spelling.{spell_rows, holds}
use Rattle.ts_fields.specs.Fitting.{fits, fits_uncounted, shaped}
use Rattle.ts_fields.specs.SoundRows.{rows_sound, are_exact, is_open, leasts}

-- the page of a descriptor: its tag, its name, its rows, and where there are items their name and rows; and how many
-- rows come before the items, where these have a length of 8 bits before them and the other rows after them
pub record Page : Type 0 where
  pub tag : ℕ
  pub name : List ℕ
  pub head : List Row
  pub items : Option (List ℕ × List Row)
  pub counted : Option ℕ

-- the values of a body: those of the rows, and those of the rows of each item
pub record Holding : Type 0 where
  pub head : List Held
  pub items : List (List Held)

-- the name and the rows of the items, as a page has them
abbrev pub item_page : ItemLayout → List ℕ × List Row
item_page i = (i.name.now, rows_of i.rows.now)

-- the page of a layout of the code
abbrev pub page : Layout → Page
page l = record {
  tag = l.tag;
  name = l.name.now;
  head = rows_of l.head.now;
  items = option_map item_page l.items;
  counted = l.counted;
}

-- the values of an item of the code
abbrev pub item_held : Item → List Held
item_held i = map held i.values.items

-- the values of a body of the code
abbrev pub body_held : Body → Holding
body_held b = record { head = map held b.head.items; items = map item_held b.items.items }

-- items up to the end; `most` is at least their number
unfoldable pub read_items : ℕ → List Row → List Bool → Option (List (List Held))
read_items most rows [] = Some []
read_items zero rows (b ∷ bs) = None
read_items (suc most) rows (b ∷ bs) = do
  x ← read_rows rows (b ∷ bs)
  more ← read_items most rows x.1
  Some (x.0 ∷ more)

-- what follows the fields: items, or nothing
unfoldable pub read_after : Option (List ℕ × List Row) → List Bool → Option (List (List Held))
read_after None [] = Some []
read_after None (b ∷ bs) = None
read_after (Some i) from = read_items (length from) i.1 from

-- items in as many bytes as a length of 8 bits before them says, and the bits after them
unfoldable pub read_loop : List Row → List Bool → Front (List (List Held))
read_loop rs from = do
  count ← read_number 8 from
  x ← read_bytes count.0 count.1
  items ← read_items (length (bits_of x.0)) rs (bits_of x.0)
  Some (items, x.1)

-- the values of a body that is rows, such items and rows, with nothing after them
abbrev pub read_around : List Row → List Row → List Row → List Bool → Option Holding
read_around front rs back from = do
  head ← read_rows front from
  items ← read_loop rs head.1
  tail ← read_rows back items.1
  if nat_eq (length tail.1) 0 then Some (record { head = head.0 ++ tail.0; items = items.0 }) else None

-- the values of a body whose items go to the end
abbrev pub read_to_end : Page → List Bool → Option Holding
read_to_end p from = do
  head ← read_rows p.head from
  items ← read_after p.items head.1
  Some (record { head = head.0; items = items })

-- the rows of the items
abbrev pub item_rows : Option (List ℕ × List Row) → List Row
item_rows None = []
item_rows (Some i) = i.1

-- the same, where so many of the rows come before the items; none where the page has no items
abbrev pub read_counted : ℕ → Option (List ℕ × List Row) → List Row → List Bool → Option Holding
read_counted n None head from = None
read_counted n (Some i) head from = read_around (take n head) i.1 (drop n head) from

-- the values of a body by the place of its items
abbrev pub read_by : Option ℕ → Page → List Bool → Option Holding
read_by None p from = read_to_end p from
read_by (Some n) p from = read_counted n p.items p.head from

-- the values of a body; none where it is not of this page
unfoldable pub read_page : Page → List Bool → Option Holding
read_page p from = read_by p.counted p from

-- the bits of some items
abbrev pub spell_items : Option (List ℕ × List Row) → List (List Held) → List Bool
spell_items None items = []
spell_items (Some i) items = flat_map (spell_rows i.1) items

-- the bits of items with their length in bytes before them
abbrev pub spell_loop : List Row → List (List Held) → List Bool
spell_loop rs items =
    bits 8 (length (flat_map (spell_rows rs) items) / 8) ++ flat_map (spell_rows rs) items

-- the number of values of some rows
abbrev pub held_by : List Row → ℕ
held_by [] = 0
held_by (r ∷ rs) = holds r.kind + held_by rs

-- the bits of a body with such items between its rows
abbrev pub spell_around : List Row → List Row → List Row → Holding → List Bool
spell_around front rs back h =
    spell_rows front h.head ++ (spell_loop rs h.items ++ spell_rows back (drop (held_by front) h.head))

-- the bits of a body by the place of its items
abbrev pub spell_by : Option ℕ → Page → Holding → List Bool
spell_by None p h = spell_rows p.head h.head ++ spell_items p.items h.items
spell_by (Some n) p h = spell_around (take n p.head) (item_rows p.items) (drop n p.head) h

-- the bits of a body with these values
unfoldable pub spell_page : Page → Holding → List Bool
spell_page p h = spell_by p.counted p h

-- rows of items that can be read and written: none goes to the end, and each item takes some bits
abbrev pub items_sound : Option (List ℕ × List Row) → Bool
items_sound None = true
items_sound (Some i) = rows_sound i.1 && not (is_open i.1) && nat_lt 0 (leasts i.1)

-- the place of the items: no items follow what goes to the end; where they are counted, the rows before and after them
-- are whole bytes
abbrev pub place_sound : Option ℕ → Page → Bool
place_sound None p = is_none p.items || not (is_open p.head)
place_sound (Some n) p =
    rows_sound (take n p.head) && (rows_sound (drop n p.head) && (not (is_open (take n p.head)) && not (is_none p.items)))

-- a page that can be read and written
abbrev pub page_sound : Page → Bool
page_sound p = rows_sound p.head && items_sound p.items && place_sound p.counted p

-- a page without reserved bits that are read as anything
abbrev pub items_exact : Option (List ℕ × List Row) → Bool
items_exact None = true
items_exact (Some i) = are_exact i.1

abbrev pub page_exact : Page → Bool
page_exact p = are_exact p.head && items_exact p.items

-- values that the fields of items can hold
abbrev pub all_fit : List Row → List (List Held) → Bool
all_fit rs items = list_all (fits rs) items

abbrev pub items_fit : Option (List ℕ × List Row) → List (List Held) → Bool
items_fit None [] = true
items_fit None (item ∷ items) = false
items_fit (Some i) items = all_fit i.1 items

-- values that the fields and the items of a page can hold
abbrev pub page_fits : Page → Holding → Bool
page_fits p h = fits p.head h.head && items_fit p.items h.items

-- the same, whatever the length of counted texts and data
abbrev pub items_fit_uncounted : Option (List ℕ × List Row) → List (List Held) → Bool
items_fit_uncounted None [] = true
items_fit_uncounted None (item ∷ items) = false
items_fit_uncounted (Some i) items = list_all (fits_uncounted i.1) items

abbrev pub page_fits_uncounted : Page → Holding → Bool
page_fits_uncounted p h = fits_uncounted p.head h.head && items_fit_uncounted p.items h.items

-- each item has numbers where its fields hold numbers
abbrev pub all_shaped : List Row → List (List Held) → Bool
all_shaped rs items = list_all (shaped rs) items

abbrev pub items_shaped : Option (List ℕ × List Row) → List (List Held) → Bool
items_shaped None items = true
items_shaped (Some i) items = all_shaped i.1 items

-- the body has numbers where the fields hold numbers, so it is whole bytes
abbrev pub page_shaped : Page → Holding → Bool
page_shaped p h = shaped p.head h.head && items_shaped p.items h.items
