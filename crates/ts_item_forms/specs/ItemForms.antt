-- Items whose first fields say which others they have, and items with items in them.
-- ETSI EN 300 468, 6.2.3, and ETSI TS 102 323, 12.1: `if (..) { .. }` in the loop of a descriptor; NorDig Unified, 12.2.9.3: a
-- loop in a loop, with a length of 8 bits before it.
use Rattle.std.specs.Prelude.{◌≡◌, ℕ, suc, zero, ◌&&◌, ◌++◌, List, [], ◌∷◌, length, map, take, Bool, true, nat_lt, not, Option, Some, None, option_map}
use Rattle.std.specs.List.{flat_map, list_all}
use Rattle.ts_fields.specs.Bodies.{Page, Holding, body_held, held_by, item_page, items_exact, items_sound, page_fits, page_shaped, page_sound, read_loop, spell_loop, spell_page}
use Rattle.ts_fields.specs.Fitting.{shaped}
use Rattle.ts_fields.specs.Layout.{Row, Held, held, rows_of}
use Rattle.ts_fields.specs.Reading.{Front, read_rows, ◌>>=◌}
use Rattle.ts_fields.specs.SoundRows.{are_exact, is_open, rows_sound, widths}
use Rattle.ts_fields.specs.Spelling.{spell_rows}
use Rattle.ts_groups.specs.Groups.{Group, chosen, fields_alone, grouped_exact, grouped_sound, groups_in}
use Rattle.ts_item_forms.specs.declared.form.ItemForm.{ItemForm}
use Rattle.ts_item_forms.specs.declared.form.FormedItem.{FormedItem}
use Rattle.ts_item_forms.specs.declared.form.FormedBody.{FormedBody}

-- the form of items: their name; the fields that each of them has; the groups of further fields, by the values of those; and,
-- where an item has items in it, their name and fields, which come last, with a length of 8 bits before them
pub record Form : Type 0 where
  pub name : List ℕ
  pub head : List Row
  pub groups : List Group
  pub inner : Option (List ℕ × List Row)

-- the form of a form of the code
abbrev pub form : ItemForm → Form
form f = record {
  name = f.name.now;
  head = rows_of f.head.now;
  groups = groups_in f.groups.now;
  inner = option_map item_page f.inner;
}

-- how many fields come before the items in an item: all
abbrev pub count_before : Option (List ℕ × List Row) → List Row → Option ℕ
count_before None rs = None
count_before (Some i) rs = Some (length rs)

-- the page of an item that has these fields
abbrev pub page_of_rows : Form → List Row → Page
page_of_rows f rs = record { tag = 0; name = f.name; head = rs; items = f.inner; counted = count_before f.inner rs }

-- the page of an item whose first fields have these values
abbrev pub page_by : Form → List Held → Page
page_by f front = page_of_rows f (f.head ++ chosen f.groups front)

-- an item of the code, with the page of the fields that it has
abbrev pub item_held : Form → FormedItem → Page × Holding
item_held f x = (page_of_rows f (rows_of x.rows.items), body_held x.body)

-- a body: the values of its own fields, and its items, each with the page of the fields that it has
pub record FormedHolding : Type 0 where
  pub head : List Held
  pub items : List (Page × Holding)

-- a body of the code
abbrev pub formed_held : Form → FormedBody → FormedHolding
formed_held f b = record { head = map held b.head.items; items = map (item_held f) b.items.items }

-- the items in an item, where it has such
abbrev pub read_inner : Option (List ℕ × List Row) → List Bool → Front (List (List Held))
read_inner None from = Some ([], from)
read_inner (Some i) from = read_loop i.1 from

-- an item: its first fields say which others there are
unfoldable pub read_item : Form → List Bool → Front (Page × Holding)
read_item f from = do
  first ← read_rows f.head from
  more ← read_rows (chosen f.groups first.0) first.1
  inner ← read_inner f.inner more.1
  Some ((page_by f first.0, record { head = first.0 ++ more.0; items = inner.0 }), inner.1)

-- items up to the end; `most` is at least their number
unfoldable pub read_each : ℕ → Form → List Bool → Option (List (Page × Holding))
read_each most f [] = Some []
read_each zero f (b ∷ bs) = None
read_each (suc most) f (b ∷ bs) = do
  x ← read_item f (b ∷ bs)
  more ← read_each most f x.1
  Some (x.0 ∷ more)

-- a body: the fields of a page, and after them items up to the end
unfoldable pub read_formed : Page → Form → List Bool → Option FormedHolding
read_formed p f from = do
  head ← read_rows p.head from
  items ← read_each (length head.1) f head.1
  Some (record { head = head.0; items = items })

-- the bits of the items in an item, where it has such
abbrev pub spell_inner : Option (List ℕ × List Row) → List (List Held) → List Bool
spell_inner None items = []
spell_inner (Some i) items = spell_loop i.1 items

-- the bits of an item, by the page of the fields that it has
abbrev pub spell_item : Page × Holding → List Bool
spell_item x = spell_page x.0 x.1

-- the bits of a body with these values
abbrev pub spell_formed : Page → FormedHolding → List Bool
spell_formed p h = spell_rows p.head h.head ++ flat_map spell_item h.items

-- the values of an item fit its page
abbrev pub item_fits : Page × Holding → Bool
item_fits x = page_fits x.0 x.1

-- an item of a form: it has the fields that its own first values say, and its values fit
pub record IsOfForm (f : Form) (x : Page × Holding) : Type 0 where
  pub own : x.0 ≡ page_by f (take (held_by f.head) x.1.head)
  pub fits : item_fits x ≡ true

-- items of a form
abbrev pub AreOfForm : Form → List (Page × Holding) → Type 0
AreOfForm f [] = Unit {0}
AreOfForm f (x ∷ xs) = IsOfForm f x × AreOfForm f xs

-- an item that can be written
abbrev pub is_writable : Page × Holding → Bool
is_writable x = page_sound x.0 && page_shaped x.0 x.1

-- the page of an item's own fields, without the items in it
abbrev pub own_page : Form → Page
own_page f = fields_alone (page_of_rows f f.head) f.head

-- groups of fields, none of which goes to the end
abbrev pub all_closed : List Group → Bool
all_closed groups = list_all (λ g. not (is_open g.rows)) groups

-- a form of items that can be read and written, whichever fields are there: the first ones of each item take some bits
abbrev pub form_sound : Form → Bool
form_sound f = grouped_sound (own_page f) f.groups && (all_closed f.groups && (items_sound f.inner && nat_lt 0 (widths f.head)))

-- a form without reserved bits that are read as anything
abbrev pub form_exact : Form → Bool
form_exact f = grouped_exact (own_page f) f.groups && items_exact f.inner

-- a page of such items: its own fields are whole bytes, and none goes to the end
abbrev pub formed_sound : Page → Form → Bool
formed_sound p f = rows_sound p.head && (not (is_open p.head) && form_sound f)

-- a page of such items without reserved bits that are read as anything
abbrev pub formed_exact : Page → Form → Bool
formed_exact p f = are_exact p.head && form_exact f

-- values of a body that can be written
abbrev pub formed_shaped : Page → FormedHolding → Bool
formed_shaped p h = shaped p.head h.head && list_all is_writable h.items
