-- Worked rows: the pages computed.
use Rattle.std.proofs.Common.{◌≡◌, ◌∷◌, [], refl}
use Rattle.std.specs.Prelude.{Some, None, codes}
use Rattle.ts_fields.specs.Bits.{bits, number_of, bits_of}
use Rattle.ts_fields.specs.Layout.{number, bytes}
use Rattle.ts_fields.specs.Reading.{read_number, read_bytes, read_rest, read_field, read_rows}
use Rattle.ts_fields.specs.Bodies.{read_page, read_after, read_items, read_loop}
use Rattle.ts_pages.specs.DvbPages.{service}
use Rattle.ts_shown_pages.specs.ShownPages.{ca, extended_event, logical_channel, vbi_data}
use Rattle.ts_shown_pages.specs.Pages.{page_of, page_named, second_quarter, third_quarter, last_quarter}

-- the page of a tag with a struct, and of its name
tag-row : page_of 0x48 ≡ Some service
unfolding second_quarter
tag-row = refl

name-row : page_named (codes "service_descriptor") ≡ Some service
unfolding second_quarter
name-row = refl

-- the last page
last-row : page_of 0x83 ≡ Some logical_channel
unfolding second_quarter third_quarter last_quarter
last-row = refl

-- a tag that a broadcaster may use for anything has none
own-row : page_of 0xFE ≡ None
unfolding second_quarter third_quarter last_quarter
own-row = refl

-- reserved bits of any value are read
ca-row : read_page ca (bits_of (0x18 ∷ 0x00 ∷ 0x01 ∷ 0x00 ∷ []))
    ≡ Some (record { head = number 6144 ∷ number 0 ∷ number 256 ∷ bytes [] ∷ []; items = [] })
unfolding bits number_of read_number read_bytes read_rest read_field read_rows read_page read_after
ca-row = refl

-- two items and a text
extended-row : read_page extended_event (bits_of (0x01 ∷ 0x65 ∷ 0x6E ∷ 0x67 ∷ 0x08 ∷ 0x01 ∷ 0x61 ∷ 0x02 ∷ 0x62 ∷ 0x63 ∷ 0x00 ∷ 0x01 ∷ 0x64 ∷ 0x01 ∷ 0x64 ∷ []))
    ≡ Some (record {
      head = number 0 ∷ number 1 ∷ bytes (codes "eng") ∷ bytes (codes "d") ∷ [];
      items = (bytes (codes "a") ∷ bytes (codes "bc") ∷ []) ∷ (bytes [] ∷ bytes (codes "d") ∷ []) ∷ [];
    })
unfolding bits number_of read_number read_bytes read_rest read_field read_rows read_page read_after read_items read_loop
extended-row = refl

-- the same with a length that cuts an item
cut-row : read_page extended_event (bits_of (0x01 ∷ 0x65 ∷ 0x6E ∷ 0x67 ∷ 0x07 ∷ 0x01 ∷ 0x61 ∷ 0x02 ∷ 0x62 ∷ 0x63 ∷ 0x00 ∷ 0x01 ∷ 0x64 ∷ 0x01 ∷ 0x64 ∷ []))
    ≡ None
unfolding bits number_of read_number read_bytes read_rest read_field read_rows read_page read_after read_items read_loop
cut-row = refl

-- and with a byte after the last row
left-row : read_page extended_event (bits_of (0x01 ∷ 0x65 ∷ 0x6E ∷ 0x67 ∷ 0x08 ∷ 0x01 ∷ 0x61 ∷ 0x02 ∷ 0x62 ∷ 0x63 ∷ 0x00 ∷ 0x01 ∷ 0x64 ∷ 0x01 ∷ 0x64 ∷ 0x00 ∷ []))
    ≡ None
unfolding bits number_of read_number read_bytes read_rest read_field read_rows read_page read_after read_items read_loop
left-row = refl

-- data after their lengths, the second of which are none
counted-row : read_page vbi_data (bits_of (0x03 ∷ 0x02 ∷ 0x12 ∷ 0x34 ∷ 0x06 ∷ 0x00 ∷ []))
    ≡ Some (record {
      head = [];
      items = (number 3 ∷ bytes (0x12 ∷ 0x34 ∷ []) ∷ []) ∷ (number 6 ∷ bytes [] ∷ []) ∷ [];
    })
unfolding bits number_of read_number read_bytes read_rest read_field read_rows read_page read_after read_items read_loop
counted-row = refl
