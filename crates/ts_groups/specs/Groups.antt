-- Fields that are there by the value of a field in front.
-- ISO/IEC 13818-1, 2.6, and ETSI EN 300 468, 6.2 and annex D: `if (flag) { .. }` in the table of a descriptor.
use Rattle.std.specs.Prelude.{ℕ, ◌&&◌, ◌||◌, List, [], ◌∷◌, ◌++◌, map, slice_get, Bool, true, false, nat_eq, not, if◌then◌else◌, Option, Some, None, option_map}
use Rattle.std.specs.List.{list_any, list_all}
use Rattle.ts_fields.specs.declared.field.Kind.TheVariants.{Flag}
use Rattle.ts_fields.specs.Layout.{Row, Held, number, bytes, held, rows_of}
use Rattle.ts_fields.specs.Reading.{read_rows, ◌>>=◌}
use Rattle.ts_fields.specs.SoundRows.{are_exact, is_open, rows_sound}
use Rattle.ts_fields.specs.Bodies.{Page, Holding, read_page}
use Rattle.ts_groups.specs.declared.group.Condition.{Condition}
use Rattle.ts_groups.specs.declared.group.FieldGroup.{FieldGroup}
use Rattle.ts_groups.specs.declared.grouped.GroupedBody.{GroupedBody}

-- fields that are there where the value with this number, of those in front, is one of these numbers; where no value is
-- named, they always are
pub record Group : Type 0 where
  pub when : Option (ℕ × List ℕ)
  pub rows : List Row

-- the condition of a condition of the code
abbrev pub condition : Condition → ℕ × List ℕ
condition c = (c.place, c.values.now)

-- the group of a group of the code
abbrev pub group : FieldGroup → Group
group g = record { when = option_map condition g.when; rows = rows_of g.rows.now }

-- the groups of a list of the code
abbrev pub groups_in : List FieldGroup → List Group
groups_in groups = map group groups

-- a value that is one of these numbers
abbrev pub is_one_of : List ℕ → Option Held → Bool
is_one_of wanted None = false
is_one_of wanted (Some (number n)) = list_any (λ one. nat_eq one n) wanted
is_one_of wanted (Some (bytes b)) = false

-- whether fields are there, by the values of those in front
abbrev pub is_there : Option (ℕ × List ℕ) → List Held → Bool
is_there None front = true
is_there (Some w) front = is_one_of w.1 (slice_get front w.0)

-- the fields of the groups that are there
abbrev pub chosen : List Group → List Held → List Row
chosen [] front = []
chosen (g ∷ gs) front = (if is_there g.when front then g.rows else []) ++ chosen gs front

-- the page of these fields alone
abbrev pub fields_alone : Page → List Row → Page
fields_alone p rs = record { tag = p.tag; name = p.name; head = rs; items = None; counted = None }

-- the page of the fields that are there, where the first ones have these values
abbrev pub page_with : Page → List Group → List Held → Page
page_with p groups front = fields_alone p (p.head ++ chosen groups front)

-- a body without items
abbrev pub values_alone : List Held → Holding
values_alone values = record { head = values; items = [] }

-- a body of the code: the page of its fields, and their values
abbrev pub grouped_held : Page → GroupedBody → Page × Holding
grouped_held p b = (fields_alone p (rows_of b.rows.items), values_alone (map held b.values.items))

-- a body by a page and the groups behind its fields: the page of the fields that are there, and their values
unfoldable pub read_grouped : Page → List Group → List Bool → Option (Page × Holding)
read_grouped p groups from = do
  first ← read_rows p.head from
  h ← read_page (page_with p groups first.0) from
  Some (page_with p groups first.0, h)

-- no groups
abbrev pub no_groups : List Group → Bool
no_groups [] = true
no_groups (g ∷ gs) = false

-- groups of whole bytes, of which none but the last goes to the end
abbrev pub groups_sound : List Group → Bool
groups_sound [] = true
groups_sound (g ∷ gs) = rows_sound g.rows && ((no_groups gs || not (is_open g.rows)) && groups_sound gs)

-- a page with groups that can be read and written, whichever groups are there
abbrev pub grouped_sound : Page → List Group → Bool
grouped_sound p groups = rows_sound p.head && (not (is_open p.head) && groups_sound groups)

-- a page with groups without reserved bits that are read as anything
abbrev pub grouped_exact : Page → List Group → Bool
grouped_exact p groups = are_exact p.head && list_all (λ g. are_exact g.rows) groups

-- fields that are there where the value with this number is one of these
abbrev pub by_value : ℕ → List ℕ → List Row → Group
by_value place values rows = record { when = Some (place, values); rows = rows }

-- fields that are always there
abbrev pub always : List Row → Group
always rows = record { when = None; rows = rows }

-- a flag that JSON need not have, and that is then false
abbrev pub false_if_absent : List ℕ → Row
false_if_absent called = record { name = called; kind = Flag; absent = Some 0; range = None }
