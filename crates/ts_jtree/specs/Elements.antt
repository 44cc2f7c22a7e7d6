-- Elements: objects with a name, attributes and children.
-- This project's own rule: an element is checked in the order of its steps, one line of `read_element` each, and
-- the first fault is reported.
use Rattle.std.specs.Prelude.{ℕ, ◌&&◌, ◌||◌, List, [], ◌∷◌, codes, Bool, false, not, is_none, bytes_eq, if◌then◌else◌, Option, Some, None, Ok}
use Rattle.serde_json.specs.Data.{Data, Items, no_items, item, Members, no_members, member}
use Rattle.serde_json.specs.Find.{get_member, as_object, as_str, as_array}
use Rattle.ts_fields.specs.declared.field.Kind.{Kind}
use Rattle.ts_fields.specs.declared.field.Kind.TheVariants.{Ones, Free, CountedText, Text}
use Rattle.ts_fields.specs.Layout.{Row, Held}
use Rattle.ts_jtree.specs.declared.fault.JsonKind.TheVariants.{Missing, WrongKind, UnknownKey}
use Rattle.ts_jtree.specs.Faults.{Reading, refuse, or_refuse, at_child, ◌>>=◌}
use Rattle.ts_jtree.specs.Attributes.{hex_key, table_key, read_attributes}

-- the key of an element's name
abbrev pub name_key : List ℕ
name_key = codes "#name"

-- the key of an element's children
abbrev pub nodes_key : List ℕ
nodes_key = codes "#nodes"

-- the value is an object
abbrev pub members_of : Data → Reading Members
members_of value = or_refuse (as_object value) name_key WrongKind

-- its name is there, and is a text
unfoldable pub name_of : Members → Reading (List ℕ)
name_of ms = do
  value ← or_refuse (get_member name_key ms) name_key Missing
  or_refuse (as_str value) name_key WrongKind

-- the name is the one that may stand here
abbrev pub named : List ℕ → List ℕ → Reading (List ℕ)
named wanted name = if bytes_eq name wanted then Ok [] else refuse name_key UnknownKey

-- the key of a text, and with it the key of its table, or where it is absent the key of its bytes
abbrev pub names_text : List ℕ → Members → List ℕ → Bool
names_text name ms key =
    bytes_eq key name
    || ((bytes_eq key (hex_key name) && is_none (get_member name ms))
    || (bytes_eq key (table_key name) && not (is_none (get_member name ms))))

-- the keys of a field; reserved bits have none
abbrev pub names_field : Kind → List ℕ → Members → List ℕ → Bool
names_field (Ones count) name ms key = false
names_field (Free count) name ms key = false
names_field CountedText name ms key = names_text name ms key
names_field Text name ms key = names_text name ms key
names_field _ name ms key = bytes_eq key name

-- the keys of some rows
abbrev pub names_some : List Row → Members → List ℕ → Bool
names_some [] ms key = false
names_some (r ∷ rs) ms key = names_field r.kind r.name ms key || names_some rs ms key

-- the keys of an element with these rows
abbrev pub is_known : List Row → Members → List ℕ → Bool
is_known rs ms key = bytes_eq key name_key || (bytes_eq key nodes_key || names_some rs ms key)

-- every key is known; the first one that is not, in byte order, is at fault
unfoldable pub keys_known : List Row → Members → Members → Reading (List ℕ)
keys_known rs ms no_members = Ok []
keys_known rs ms (member key value more) =
    if is_known rs ms key then keys_known rs ms more else refuse key UnknownKey

-- the children are an array; there are none where the key is absent
abbrev pub nodes_at : Option Data → Reading Items
nodes_at None = Ok no_items
nodes_at (Some value) = or_refuse (as_array value) nodes_key WrongKind

-- the children of an element
unfoldable pub nodes_of : Members → Reading Items
nodes_of ms = nodes_at (get_member nodes_key ms)

-- the values of an element of this name, and its children, which are still to be checked
unfoldable pub read_element : List ℕ → List Row → Data → Reading (List Held × Items)
read_element wanted rs value = do
  ms ← members_of value
  name ← name_of ms
  _ ← named wanted name
  _ ← keys_known rs ms ms
  values ← read_attributes rs ms
  nodes ← nodes_of ms
  Ok (values, nodes)

-- an element where no element may stand
unfoldable pub read_stranger : Data → Reading (List (List Held))
read_stranger value = do
  ms ← members_of value
  _ ← name_of ms
  refuse name_key UnknownKey

-- there are no children; the first of them is at fault
unfoldable pub no_children : Items → Reading (List (List Held))
no_children no_items = Ok []
no_children (item value more) = at_child 0 (read_stranger value)
