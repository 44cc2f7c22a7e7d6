-- Worked rows, computed on the definitions.
use Rattle.std.proofs.Common.{◌≡◌, ℕ, true, false, List, [], ◌∷◌, map, None, Some, refl}
use Rattle.std.specs.List.{flat_map}
use Rattle.ts_bits.specs.TaggedBody.{TaggedBody}
use Rattle.ts_fields.specs.Layout.{number}
use Rattle.ts_table_rows.specs.TableValues.{ItemHolding}
use Rattle.service_items.specs.ServiceItems.{descriptor_left, edited_streams, items_from, lists_services}

abbrev descriptor : ℕ → List ℕ → TaggedBody
descriptor tag body = record { tag = tag; body = body }

-- a service_list_descriptor of services 1, 2 and 1, and logical channels of 2, and of 769 and 1
abbrev list_row : TaggedBody
list_row = descriptor 0x41 (0 ∷ 1 ∷ 0x16 ∷ 0 ∷ 2 ∷ 0x02 ∷ 0 ∷ 1 ∷ 0x01 ∷ [])

abbrev channel_row : TaggedBody
channel_row = descriptor 0x83 (0 ∷ 2 ∷ 0xFC ∷ 7 ∷ [])

abbrev channels_row : TaggedBody
channels_row = descriptor 0x88 (3 ∷ 1 ∷ 0xFC ∷ 7 ∷ 0 ∷ 1 ∷ 0xFC ∷ 8 ∷ [])

-- a body that is not whole items, and another descriptor
abbrev cut_row : TaggedBody
cut_row = descriptor 0x41 (0 ∷ 1 ∷ 0x16 ∷ 0 ∷ 1 ∷ [])

abbrev delivery_row : TaggedBody
delivery_row = descriptor 0x43 (0 ∷ 1 ∷ 0x16 ∷ [])

listing-row : map lists_services (list_row ∷ channel_row ∷ channels_row ∷ cut_row ∷ delivery_row ∷ descriptor 0x41 [] ∷ []) ≡ true ∷ true ∷ true ∷ false ∷ false ∷ true ∷ []
listing-row = refl

-- without services 1 and 2 the items of others are left, and a descriptor that has none goes
left-row : flat_map (descriptor_left (1 ∷ 2 ∷ []) None) (list_row ∷ channel_row ∷ channels_row ∷ cut_row ∷ delivery_row ∷ descriptor 0x41 [] ∷ [])
    ≡ descriptor 0x88 (3 ∷ 1 ∷ 0xFC ∷ 7 ∷ []) ∷ cut_row ∷ delivery_row ∷ descriptor 0x41 [] ∷ []
unfolding items_from
left-row = refl

-- service 1 as 513
numbered-row : flat_map (descriptor_left (1 ∷ []) (Some 513)) (list_row ∷ channel_row ∷ channels_row ∷ [])
    ≡ descriptor 0x41 (2 ∷ 1 ∷ 0x16 ∷ 0 ∷ 2 ∷ 0x02 ∷ 2 ∷ 1 ∷ 0x01 ∷ []) ∷ channel_row ∷ descriptor 0x88 (3 ∷ 1 ∷ 0xFC ∷ 7 ∷ 2 ∷ 1 ∷ 0xFC ∷ 8 ∷ []) ∷ []
unfolding items_from
numbered-row = refl

-- transport streams 5 and 6, and 5 again
abbrev stream : ℕ → List TaggedBody → ItemHolding
stream id descriptors = record { values = number id ∷ number 1 ∷ []; descriptors = descriptors }

abbrev streams_row : List ItemHolding
streams_row = stream 5 (channel_row ∷ delivery_row ∷ []) ∷ stream 6 (channel_row ∷ []) ∷ stream 5 (list_row ∷ []) ∷ []

-- service 2 goes from both entries of 5
streams-left-row : edited_streams (2 ∷ []) None (Some 5) streams_row
    ≡ Some (stream 5 (delivery_row ∷ []) ∷ stream 6 (channel_row ∷ []) ∷ stream 5 (descriptor 0x41 (0 ∷ 1 ∷ 0x16 ∷ 0 ∷ 1 ∷ 0x01 ∷ []) ∷ []) ∷ [])
unfolding items_from
streams-left-row = refl

-- where it has no item, or the transport stream is not known or not there, nothing is edited
nothing-row : map (λ told. edited_streams (3 ∷ []) None told streams_row) (Some 5 ∷ []) ≡ None ∷ []
unfolding items_from
nothing-row = refl

not-there-row : map (λ told. edited_streams (2 ∷ []) None told streams_row) (Some 7 ∷ None ∷ []) ≡ None ∷ None ∷ []
unfolding items_from
not-there-row = refl
