-- Descriptors from JSON elements.
-- This project's own rule: an element is checked step by step, and then its children in their order; a body
-- of more than 255 bytes is checked last. Where the first fields say which others are there, their attributes are
-- read before all else: a key of a field that is not there is unknown; so with each item whose first fields say so. The
-- name of an extension descriptor says its extension, whose tag is the first byte of its body (ETSI EN 300 468, 6.2.16).
use Rattle.std.specs.Prelude.{ℕ, ◌+◌, ◌<◌, ◌≤◌, ◌&&◌, Bool, true, List, [], ◌∷◌, ◌++◌, length, bytes_eq, nat_lt, if◌then◌else◌, Option, Some, None, Ok}
use Rattle.serde_json.specs.Data.{Data, Items, no_items, item, Members}
use Rattle.ts_fields.specs.Bits.{bits, bits_of}
use Rattle.ts_fields.specs.Bodies.{Page, Holding, spell_page}
use Rattle.ts_fields.specs.Layout.{Row, Held, number, bytes}
use Rattle.ts_groups.specs.Groups.{Group, grouped_sound, page_with}
use Rattle.ts_item_forms.specs.ItemForms.{Form, FormedHolding, formed_exact, formed_sound, page_by, spell_formed}
use Rattle.ts_shown_pages.specs.Extensions.{extension_groups_of, extension_named, extension_tag}
use Rattle.ts_shown_pages.specs.Pages.{form_of, groups_of, page_named}
use Rattle.ts_jtree.specs.declared.fault.JsonKind.TheVariants.{UnknownKey, OutOfRange}
use Rattle.ts_jtree.specs.Attributes.{read_attributes}
use Rattle.ts_jtree.specs.Elements.{name_key, members_of, name_of, named, keys_known, nodes_of, no_children, read_element}
use Rattle.ts_jtree.specs.Faults.{Reading, refuse, or_refuse, at_child, ◌>>=◌}
use Rattle.ts_json_descr.specs.DescrElements.{generic_name, generic_page}

-- an item, which has no children itself
unfoldable pub read_item : List ℕ × List Row → Data → Reading (List Held)
read_item i value = do
  x ← read_element i.0 i.1 value
  _ ← no_children x.1
  Ok x.0

-- items one after another, the first of which is the child with this number
unfoldable pub read_items : List ℕ × List Row → ℕ → Items → Reading (List (List Held))
read_items i place no_items = Ok []
read_items i place (item value more) = do
  x ← at_child place (read_item i value)
  others ← read_items i (place + 1) more
  Ok (x ∷ others)

-- the children, which are items where the layout has items
unfoldable pub read_children : Option (List ℕ × List Row) → Items → Reading (List (List Held))
read_children None nodes = no_children nodes
read_children (Some i) nodes = read_items i 0 nodes

-- the values of an element of a page, whose name was checked before
unfoldable pub read_holding : Page → Members → Reading Holding
read_holding p ms = do
  _ ← keys_known p.head ms ms
  head ← read_attributes p.head ms
  nodes ← nodes_of ms
  items ← read_children p.items nodes
  Ok (record { head = head; items = items })

-- a tag and the bits of a body, which has at most 255 bytes
abbrev pub sized : ℕ → List Bool → Reading (ℕ × List Bool)
sized tag body = if nat_lt 2040 (length body) then refuse name_key OutOfRange else Ok (tag, body)

-- the descriptor of an element of a page
unfoldable pub read_typed : Page → Members → Reading (ℕ × List Bool)
read_typed p ms = do
  h ← read_holding p ms
  sized p.tag (spell_page p h)

-- the same, where the first attributes say which others there are
abbrev pub read_paged : Page → Option (List Group) → Members → Reading (ℕ × List Bool)
read_paged p None ms = read_typed p ms
read_paged p (Some groups) ms = do
  first ← read_attributes p.head ms
  read_typed (page_with p groups first) ms

-- an item of a form, whose first attributes say which others there are
unfoldable pub read_formed_item : Form → Data → Reading (Page × Holding)
read_formed_item f value = do
  ms ← members_of value
  name ← name_of ms
  _ ← named f.name name
  first ← read_attributes f.head ms
  h ← read_holding (page_by f first) ms
  Ok (page_by f first, h)

-- such items one after another, the first of which is the child with this number
unfoldable pub read_formed_items : Form → ℕ → Items → Reading (List (Page × Holding))
read_formed_items f place no_items = Ok []
read_formed_items f place (item value more) = do
  x ← at_child place (read_formed_item f value)
  others ← read_formed_items f (place + 1) more
  Ok (x ∷ others)

-- the values of an element of a page with such items, whose name was checked before
unfoldable pub read_formed_holding : Page → Form → Members → Reading FormedHolding
read_formed_holding p f ms = do
  _ ← keys_known p.head ms ms
  head ← read_attributes p.head ms
  nodes ← nodes_of ms
  items ← read_formed_items f 0 nodes
  Ok (record { head = head; items = items })

-- the descriptor of an element of a page with such items
unfoldable pub read_formed : Page → Form → Members → Reading (ℕ × List Bool)
read_formed p f ms = do
  h ← read_formed_holding p f ms
  sized p.tag (spell_formed p h)

-- the descriptor of an element of a page, by its groups and the form of its items
abbrev pub read_by_page : Page → Option (List Group) → Option Form → Members → Reading (ℕ × List Bool)
read_by_page p groups None ms = read_paged p groups ms
read_by_page p groups (Some f) ms = read_formed p f ms

-- a form of items that can be read and written, and is written as it was read
abbrev pub form_good : Page → Option Form → Bool
form_good p None = true
form_good p (Some f) = formed_sound p f && formed_exact p f

-- groups that can be read and written
abbrev pub groups_sound : Page → Option (List Group) → Bool
groups_sound p None = true
groups_sound p (Some groups) = grouped_sound p groups

-- the descriptor of a tag and bytes
abbrev pub tagged : List Held → Reading (ℕ × List Bool)
tagged (number tag ∷ bytes body ∷ []) = Ok (tag, bits_of body)
tagged _ = refuse name_key OutOfRange

-- a tag of 8 bits and at most 255 bytes
abbrev pub are_tagged : List Held → Type 0
are_tagged (number tag ∷ bytes body ∷ []) = (tag < 256) × (length body ≤ 255)
are_tagged _ = ⊥

-- the descriptor of a generic element
unfoldable pub read_generic : Members → Reading (ℕ × List Bool)
read_generic ms = do
  h ← read_holding generic_page ms
  tagged h.head

-- the extension descriptor of an element of a page, if there is one
abbrev pub read_extension : Option Page → Members → Reading (ℕ × List Bool)
read_extension found ms = do
  p ← or_refuse found name_key UnknownKey
  x ← read_paged p (extension_groups_of p.tag) ms
  sized extension_tag (bits 8 x.0 ++ x.1)

-- the descriptor of an element whose name has this page; where it has none, that of the extension of its name
abbrev pub read_found : Option Page → List ℕ → Members → Reading (ℕ × List Bool)
read_found None name ms = read_extension (extension_named name) ms
read_found (Some p) name ms = read_by_page p (groups_of p.tag) (form_of p.tag) ms

-- the descriptor of an element of this name
abbrev pub read_by_name : List ℕ → Members → Reading (ℕ × List Bool)
read_by_name name ms =
    if bytes_eq name generic_name then read_generic ms
    else read_found (page_named name) name ms

-- the tag and the bits of the body of a descriptor's element
unfoldable pub descr_read : Data → Reading (ℕ × List Bool)
descr_read value = do
  ms ← members_of value
  name ← name_of ms
  read_by_name name ms
