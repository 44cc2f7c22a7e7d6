-- The items of services in a NIT or a BAT, and the table if some services go, or have another number.
-- ETSI EN 300 468, 5.2.1 and 5.2.2: both tables have transport streams with descriptors; 6.2.35: an item of a
-- service_list_descriptor has three bytes, of which the first two are a service_id. IEC 62216: an item of a
-- logical_channel_descriptor, whose tags are private, has four bytes, of which the first two are a service_id. What is made of
-- them is this project's own rule: a descriptor without an item of the services stays as it is, and one that has no item then
-- goes.
use Rattle.std.specs.Prelude.{ℕ, ◌+◌, ◌*◌, ◌/◌, ◌%◌, ◌==◌, ◌&&◌, ◌||◌, Bool, false, nat_lt, List, [], ◌∷◌, take, drop, length, map, zero, suc, Option, Some, None, option_map, if◌then◌else◌}
use Rattle.std.specs.List.{flat_map, list_any}
use Rattle.ts_bits.specs.TaggedBody.{TaggedBody}
use Rattle.ts_table_rows.specs.TableValues.{ItemHolding, TableHolding}
use Rattle.plug_psi.specs.NumbersHeld.{number_at}

-- the length of an item in a descriptor that lists services, by its tag; 0 for any other descriptor
abbrev pub item_length : ℕ → ℕ
item_length tag = if tag == 0x41 then 3 else (if (tag == 0x83) || (tag == 0x88) then 4 else 0)

-- a descriptor lists services: its body is whole items
abbrev pub lists_services : TaggedBody → Bool
lists_services d = nat_lt 0 (item_length d.tag) && (length d.body % item_length d.tag == 0)

-- so many items of this length each, one after another
unfoldable pub items_from : ℕ → ℕ → List ℕ → List (List ℕ)
items_from zero size bytes = []
items_from (suc n) size bytes = take size bytes ∷ items_from n size (drop size bytes)

-- the items of a body
abbrev pub items_in : ℕ → List ℕ → List (List ℕ)
items_in size body = items_from (length body / size) size body

-- whether a number is that of one of some services
abbrev pub is_one : List ℕ → ℕ → Bool
is_one services id = list_any (λ service. id == service) services

-- an item is of one of some services: its first two bytes are the number of one
abbrev pub is_of_one : List ℕ → List ℕ → Bool
is_of_one services [] = false
is_of_one services (high ∷ []) = false
is_of_one services (high ∷ low ∷ rest) = is_one services (high * 256 + low)

-- a descriptor lists one of some services
abbrev pub lists_one : List ℕ → TaggedBody → Bool
lists_one services d = lists_services d && list_any (is_of_one services) (items_in (item_length d.tag) d.body)

-- an item with another number; nothing if there is none, so that the item goes
abbrev pub numbered : Option ℕ → List ℕ → List ℕ
numbered None item = []
numbered (Some number) item = number / 256 ∷ number % 256 ∷ drop 2 item

-- an item, with another number or gone if it is of one of some services
abbrev pub item_left : List ℕ → Option ℕ → List ℕ → List ℕ
item_left services number item = if is_of_one services item then numbered number item else item

-- the items of a body then, one after another
abbrev pub items_left : List ℕ → Option ℕ → ℕ → List ℕ → List ℕ
items_left services number size body = flat_map (item_left services number) (items_in size body)

-- a descriptor with this body; none if it is empty
abbrev pub with_body : ℕ → List ℕ → List TaggedBody
with_body tag [] = []
with_body tag (byte ∷ bytes) = record { tag = tag; body = byte ∷ bytes } ∷ []

-- what is left of a descriptor
abbrev pub descriptor_left : List ℕ → Option ℕ → TaggedBody → List TaggedBody
descriptor_left services number d =
    if lists_one services d then with_body d.tag (items_left services number (item_length d.tag) d.body) else d ∷ []

-- an item of the table is the transport stream with this transport_stream_id
abbrev pub is_stream : ℕ → ItemHolding → Bool
is_stream stream item = number_at item.values 0 == stream

-- a transport stream with what is left of its descriptors, if it is this one
abbrev pub stream_left : List ℕ → Option ℕ → ℕ → ItemHolding → ItemHolding
stream_left services number stream item =
    if is_stream stream item then record item { descriptors = flat_map (descriptor_left services number) item.descriptors } else item

-- a transport stream is this one, and one of its descriptors lists one of some services
abbrev pub stream_lists : List ℕ → ℕ → ItemHolding → Bool
stream_lists services stream item = is_stream stream item && list_any (lists_one services) item.descriptors

-- Transport streams in one of which some services have another number, or are gone; none if they have no items there, or if
-- the transport stream is not known.
abbrev pub edited_streams : List ℕ → Option ℕ → Option ℕ → List ItemHolding → Option (List ItemHolding)
edited_streams services number None streams = None
edited_streams services number (Some stream) streams =
    if list_any (stream_lists services stream) streams then Some (map (stream_left services number stream) streams) else None

-- a table with these items
abbrev pub with_items : TableHolding → List ItemHolding → TableHolding
with_items table items = record table { body = record table.body { items = items } }

-- A table in which some services have another number in a transport stream, or are gone from it; none if they have no items
-- there. So such a table stays as it came.
abbrev pub edited_items : List ℕ → Option ℕ → Option ℕ → TableHolding → Option TableHolding
edited_items services number stream table = option_map (with_items table) (edited_streams services number stream table.body.items)
