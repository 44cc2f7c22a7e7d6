-- Descriptors as JSON elements.
-- This project's own rule: a descriptor whose body reads by its tag's page is an element of the page's name,
-- its fields attributes and its items children; every other one is a `generic_descriptor` of tag and bytes. Where the
-- first fields say which others are there, those that are there have attributes, and no others; so with each item whose
-- first fields say so, and items in an item are its children. An extension descriptor has the page of its extension, which
-- reads the bytes after descriptor_tag_extension (ETSI EN 300 468, 6.2.16).
use Rattle.std.specs.Prelude.{ℕ, Bool, List, [], ◌∷◌, map, codes, nat_eq, if◌then◌else◌, Option, Some, None, option_map, option_and_then}
use Rattle.serde_json.specs.Data.{Data, object, array}
use Rattle.serde_json.specs.View.{items_of}
use Rattle.ts_bits.specs.TaggedBody.{TaggedBody}
use Rattle.ts_fields.specs.declared.field.Kind.TheVariants.{Number, Hex}
use Rattle.ts_fields.specs.Bits.{bits_of}
use Rattle.ts_fields.specs.Bodies.{Page, Holding, read_page}
use Rattle.ts_fields.specs.Layout.{Row, Held, number, bytes}
use Rattle.ts_groups.specs.Groups.{Group, read_grouped}
use Rattle.ts_item_forms.specs.ItemForms.{Form, FormedHolding, read_formed}
use Rattle.ts_pages.specs.PageRows.{field}
use Rattle.ts_shown_pages.specs.Extensions.{extension_groups_of, extension_of, extension_tag}
use Rattle.ts_shown_pages.specs.Pages.{form_of, groups_of, page_of}
use Rattle.ts_jtree.specs.Shown.{element_members}

-- the element of an item
abbrev pub item_shown : List ℕ × List Row → List Held → Data
item_shown i values = object (element_members i.1 i.0 None values)

-- the children, where the layout has items
abbrev pub items_shown : Option (List ℕ × List Row) → List (List Held) → Option Data
items_shown None items = None
items_shown (Some i) items = Some (array (items_of (map (item_shown i) items)))

-- the element of a body that a page reads
abbrev pub body_shown : Page → Holding → Data
body_shown p h = object (element_members p.head p.name (items_shown p.items h.items) h.head)

-- the element of a body whose items have a form: each item is shown by the page of the fields that it has
abbrev pub formed_shown : Page → FormedHolding → Data
formed_shown p h =
    object (element_members p.head p.name (Some (array (items_of (map (λ x. body_shown x.0 x.1) h.items)))) h.head)

-- the name of a descriptor without a page
abbrev pub generic_name : List ℕ
generic_name = codes "generic_descriptor"

-- its attributes: the tag, and the body of at most 255 bytes
abbrev pub generic_rows : List Row
generic_rows =
    field (codes "tag") (Number 8)
    ∷ record { name = codes "data"; kind = Hex; absent = None; range = Some (0, 255) } ∷ []

-- the page of such a descriptor, whose tag and body are both attributes
abbrev pub generic_page : Page
generic_page = record { tag = 0; name = generic_name; head = generic_rows; items = None; counted = None }

-- the element of tag and bytes
abbrev pub generic_shown : TaggedBody → Data
generic_shown d = object (element_members generic_rows generic_name None (number d.tag ∷ bytes d.body ∷ []))

-- the page of the fields that are there, with the values of a body; where the page has no groups, it is that page
abbrev pub read_paged : Page → Option (List Group) → List Bool → Option (Page × Holding)
read_paged p None from = option_map (λ h. (p, h)) (read_page p from)
read_paged p (Some groups) from = read_grouped p groups from

-- the element of a body by a page, its groups and the form of its items; none where the page does not read it
abbrev pub page_shown : Page → Option (List Group) → Option Form → List Bool → Option Data
page_shown p groups None from = option_map (λ x. body_shown x.0 x.1) (read_paged p groups from)
page_shown p groups (Some f) from = option_map (formed_shown p) (read_formed p f from)

-- the same of these bytes, by a page if there is one
abbrev pub by_page : Option Page → (ℕ → Option (List Group)) → (ℕ → Option Form) → List ℕ → Option Data
by_page p groups forms row = option_and_then (λ p. page_shown p (groups p.tag) (forms p.tag) (bits_of row)) p

-- no extension descriptor has items of a form
abbrev pub no_form : ℕ → Option Form
no_form tag = None

-- the same of the body of an extension descriptor
abbrev pub extension_typed : List ℕ → Option Data
extension_typed [] = None
extension_typed (tag ∷ row) = by_page (extension_of tag) extension_groups_of no_form row

-- the same of a descriptor, by its tag
abbrev pub typed : TaggedBody → Option Data
typed d =
    if nat_eq d.tag extension_tag then extension_typed d.body
    else by_page (page_of d.tag) groups_of form_of d.body

-- the element of a descriptor by its page, or the generic one
abbrev pub shown_by : Option Data → TaggedBody → Data
shown_by None d = generic_shown d
shown_by (Some x) d = x

-- the element of a descriptor
abbrev pub descr_shown : TaggedBody → Data
descr_shown d = shown_by (typed d) d
