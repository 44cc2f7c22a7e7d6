-- Worked rows: the definitions computed.
use Rattle.std.proofs.Common.{◌≡◌, ◌∷◌, [], refl}
use Rattle.std.specs.Prelude.{codes, Err}
use Rattle.serde_json.specs.Data.{array, item, member, no_items, no_members, number, object, string, unsigned}
use Rattle.serde_json.specs.Written.{compact_text}
use Rattle.ts_fields.specs.Bits.{bits, number_of}
use Rattle.ts_fields.specs.Bodies.{read_page, read_after, read_items, read_loop}
use Rattle.ts_fields.specs.Reading.{read_number, read_bytes, read_decimal, read_rest, read_field, read_rows}
use Rattle.ts_groups.specs.Groups.{read_grouped}
use Rattle.ts_item_forms.specs.ItemForms.{read_each, read_formed, read_item}
use Rattle.ts_shown_pages.specs.Extensions.{extensions}
use Rattle.ts_shown_pages.specs.Pages.{second_quarter, third_quarter, last_quarter}
use Rattle.ts_jtree.specs.declared.fault.JsonKind.TheVariants.{Missing, UnknownKey}
use Rattle.ts_jtree.specs.Attributes.{attribute_of, number_attribute, number_in, read_attributes}
use Rattle.ts_jtree.specs.Elements.{keys_known, name_of, nodes_of}
use Rattle.ts_jtree.specs.Faults.{fault_of}
use Rattle.ts_jtree.specs.Numbers as numbers
use Rattle.ts_jtree.proofs.OnLiterals.{shown_on_literals}
use Rattle.ts_json_descr.specs.DescrElements.{descr_shown}
use Rattle.ts_json_descr.specs.DescrReading as reads
use Rattle.ts_json_descr.specs.DescrReading.{descr_read, read_formed_holding, read_formed_item, read_formed_items, read_holding, read_typed}

-- 346.0000 MHz, 64-QAM, 6.8750 Msymbol/s
cable-row : compact_text (descr_shown (record { tag = 0x44; body = 0x03 ∷ 0x46 ∷ 0x00 ∷ 0x00 ∷ 0xFF ∷ 0xF2 ∷ 0x03 ∷ 0x00 ∷ 0x68 ∷ 0x75 ∷ 0x0F ∷ [] }))
    ≡ codes "{\"#name\":\"cable_delivery_system_descriptor\",\"FEC_inner\":15,\"FEC_outer\":2,\"frequency\":3460000,\"modulation\":3,\"symbol_rate\":68750}"
unfolding bits number_of read_number read_bytes read_decimal read_rest read_field read_rows read_page read_after second_quarter third_quarter last_quarter shown_on_literals
cable-row = refl

-- the same with a digit ten, which is not a digit
generic-row : compact_text (descr_shown (record { tag = 0x44; body = 0x03 ∷ 0x0A ∷ 0x00 ∷ 0x00 ∷ 0xFF ∷ 0xF2 ∷ 0x03 ∷ 0x00 ∷ 0x68 ∷ 0x75 ∷ 0x0F ∷ [] }))
    ≡ codes "{\"#name\":\"generic_descriptor\",\"data\":\"030a0000fff2030068750f\",\"tag\":68}"
unfolding bits number_of read_number read_bytes read_decimal read_rest read_field read_rows read_page read_after second_quarter third_quarter last_quarter shown_on_literals
generic-row = refl

-- one item of subtitles
subtitling-row : compact_text (descr_shown (record { tag = 0x59; body = 0x66 ∷ 0x72 ∷ 0x61 ∷ 0x10 ∷ 0x00 ∷ 0x01 ∷ 0x00 ∷ 0x02 ∷ [] }))
    ≡ codes "{\"#name\":\"subtitling_descriptor\",\"#nodes\":[{\"#name\":\"subtitling\",\"ancillary_page_id\":2,\"composition_page_id\":1,\"language_code\":\"fra\",\"subtitling_type\":16}]}"
unfolding bits number_of read_number read_bytes read_decimal read_rest read_field read_rows read_page read_after read_items second_quarter third_quarter last_quarter shown_on_literals
subtitling-row = refl

-- a name that no descriptor has
name-row : descr_read (object (member (codes "#name") (string (codes "cable")) no_members)) ≡ Err (fault_of (codes "#name") UnknownKey)
unfolding descr_read name_of extensions second_quarter third_quarter last_quarter
name-row = refl

-- the first missing attribute, in the order of the rows and not of the keys
missing-row : descr_read (object (member (codes "#name") (string (codes "cable_delivery_system_descriptor")) no_members))
    ≡ Err (fault_of (codes "frequency") Missing)
unfolding descr_read name_of read_typed read_holding keys_known read_attributes attribute_of number_attribute second_quarter third_quarter last_quarter
missing-row = refl

-- reserved bits that are ones have no attribute
ones-row : compact_text (descr_shown (record { tag = 0x49; body = 0xFF ∷ 0x47 ∷ 0x42 ∷ 0x52 ∷ [] }))
    ≡ codes "{\"#name\":\"country_availability_descriptor\",\"#nodes\":[{\"#name\":\"country\",\"country_code\":\"GBR\"}],\"country_availability\":true}"
unfolding bits number_of read_number read_bytes read_decimal read_rest read_field read_rows read_page read_after read_items read_loop second_quarter third_quarter last_quarter shown_on_literals
ones-row = refl

-- others have
zeros-row : compact_text (descr_shown (record { tag = 0x49; body = 0x80 ∷ 0x47 ∷ 0x42 ∷ 0x52 ∷ [] }))
    ≡ codes "{\"#name\":\"country_availability_descriptor\",\"#nodes\":[{\"#name\":\"country\",\"country_code\":\"GBR\"}],\"country_availability\":true,\"reserved\":0}"
unfolding bits number_of read_number read_bytes read_decimal read_rest read_field read_rows read_page read_after read_items read_loop second_quarter third_quarter last_quarter shown_on_literals
zeros-row = refl

-- an extension descriptor, whose first byte says which
extension-row : compact_text (descr_shown (record { tag = 0x7F; body = 0x06 ∷ 0x07 ∷ 0x65 ∷ 0x6E ∷ 0x67 ∷ [] }))
    ≡ codes "{\"#name\":\"supplementary_audio_descriptor\",\"editorial_classification\":1,\"language_code\":\"eng\",\"language_code_present\":true,\"mix_type\":0,\"private_data\":\"\"}"
unfolding bits number_of read_number read_bytes read_rest read_field read_rows read_page read_after read_grouped extensions shown_on_literals
extension-row = refl

-- one whose first byte is that of another descriptor's tag
no-extension-row : compact_text (descr_shown (record { tag = 0x7F; body = 0x52 ∷ 0x07 ∷ [] }))
    ≡ codes "{\"#name\":\"generic_descriptor\",\"data\":\"5207\",\"tag\":127}"
unfolding bits number_of extensions shown_on_literals
no-extension-row = refl

-- and one without a byte
empty-extension-row : compact_text (descr_shown (record { tag = 0x7F; body = [] }))
    ≡ codes "{\"#name\":\"generic_descriptor\",\"data\":\"\",\"tag\":127}"
unfolding shown_on_literals
empty-extension-row = refl

-- items that have a name or a number
contents-row : compact_text (descr_shown (record { tag = 0x76; body = 0xC4 ∷ 0x02 ∷ 0x2F ∷ 0x61 ∷ 0xC9 ∷ 0x12 ∷ 0x34 ∷ [] }))
    ≡ codes "{\"#name\":\"content_identifier_descriptor\",\"#nodes\":[{\"#name\":\"CRID\",\"crid\":\"/a\",\"crid_location\":0,\"crid_type\":49},{\"#name\":\"CRID\",\"crid_location\":1,\"crid_ref\":4660,\"crid_type\":50}]}"
unfolding bits number_of read_number read_bytes read_field read_rows read_item read_each read_formed second_quarter third_quarter last_quarter shown_on_literals
contents-row = refl

-- items with items in them
lists-row : compact_text (descr_shown (record { tag = 0x87; body = 0x01 ∷ 0x01 ∷ 0x41 ∷ 0x73 ∷ 0x77 ∷ 0x65 ∷ 0x04 ∷ 0x03 ∷ 0x01 ∷ 0xFC ∷ 0x01 ∷ [] }))
    ≡ codes "{\"#name\":\"logical_channel_descriptor_v2\",\"#nodes\":[{\"#name\":\"list\",\"#nodes\":[{\"#name\":\"service\",\"logical_channel_number\":1,\"service_id\":769,\"visible_service\":true}],\"channel_list_id\":1,\"channel_list_name\":\"A\",\"country_code\":\"swe\"}]}"
unfolding bits number_of read_number read_bytes read_field read_rows read_items read_loop read_item read_each read_formed second_quarter third_quarter last_quarter shown_on_literals
lists-row = refl

-- the same with a length that cuts a service
cut-lists-row : compact_text (descr_shown (record { tag = 0x87; body = 0x01 ∷ 0x01 ∷ 0x41 ∷ 0x73 ∷ 0x77 ∷ 0x65 ∷ 0x03 ∷ 0x03 ∷ 0x01 ∷ 0xFC ∷ [] }))
    ≡ codes "{\"#name\":\"generic_descriptor\",\"data\":\"010141737765030301fc\",\"tag\":135}"
unfolding bits number_of read_number read_bytes read_field read_rows read_items read_loop read_item read_each read_formed second_quarter third_quarter last_quarter shown_on_literals
cut-lists-row = refl

-- a field that the item's own location does not have
unknown-row : descr_read (object (member (codes "#name") (string (codes "content_identifier_descriptor")) (member (codes "#nodes") (array (item (object (
    member (codes "#name") (string (codes "CRID")) (member (codes "crid_location") (number (unsigned 1)) (member (codes "crid_ref") (number (unsigned 5)) (member (codes "crid") (string (codes "/a")) (member (codes "crid_type") (number (unsigned 49)) no_members)))))) no_items)) no_members)))
    ≡ Err (record { path = 0 ∷ []; key = codes "crid"; kind = UnknownKey })
unfolding descr_read name_of reads.read_formed read_formed_holding read_formed_items read_formed_item read_holding keys_known nodes_of read_attributes attribute_of number_attribute number_in numbers.number_of second_quarter third_quarter last_quarter
unknown-row = refl
