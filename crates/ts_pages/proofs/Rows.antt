-- Worked rows: the pages computed.
use Rattle.std.proofs.Common.{◌≡◌, ◌∷◌, [], refl}
use Rattle.std.specs.Prelude.{Some, None, codes}
use Rattle.ts_fields.specs.Bits.{bits, number_of, bits_of}
use Rattle.ts_fields.specs.Layout.{number, bytes}
use Rattle.ts_fields.specs.Reading.{read_number, read_bytes, read_decimal, read_rest, read_field, read_rows}
use Rattle.ts_fields.specs.Bodies.{read_page, read_after, read_items}
use Rattle.ts_pages.specs.MpegPages.{ca}
use Rattle.ts_pages.specs.DvbPages.{subtitling}
use Rattle.ts_pages.specs.DeliveryPages.{cable}
use Rattle.ts_pages.specs.Pages.{page_of}

-- 18 00 E1 00 names the system 6144 and the PID 256
ca-row : read_page ca (bits_of (0x18 ∷ 0x00 ∷ 0xE1 ∷ 0x00 ∷ []))
    ≡ Some (record { head = number 6144 ∷ number 256 ∷ bytes [] ∷ []; items = [] })
unfolding bits number_of read_number read_bytes read_rest read_field read_rows read_page read_after
ca-row = refl

-- its reserved bits must be ones
ca-outside : read_page ca (bits_of (0x18 ∷ 0x00 ∷ 0x01 ∷ 0x00 ∷ [])) ≡ None
unfolding bits number_of read_number read_bytes read_rest read_field read_rows read_page read_after
ca-outside = refl

-- 346.0000 MHz, RS(204/188), 64-QAM, 6.8750 Msymbol/s, no inner FEC
cable-row : read_page cable (bits_of (0x03 ∷ 0x46 ∷ 0x00 ∷ 0x00 ∷ 0xFF ∷ 0xF2 ∷ 0x03 ∷ 0x00 ∷ 0x68 ∷ 0x75 ∷ 0x0F ∷ []))
    ≡ Some (record { head = number 3460000 ∷ number 2 ∷ number 3 ∷ number 68750 ∷ number 15 ∷ []; items = [] })
unfolding bits number_of read_number read_bytes read_decimal read_rest read_field read_rows read_page read_after
cable-row = refl

-- the same with no digit in the frequency
cable-outside : read_page cable (bits_of (0x03 ∷ 0x0A ∷ 0x00 ∷ 0x00 ∷ 0xFF ∷ 0xF2 ∷ 0x03 ∷ 0x00 ∷ 0x68 ∷ 0x75 ∷ 0x0F ∷ []))
    ≡ None
unfolding bits number_of read_number read_bytes read_decimal read_rest read_field read_rows read_page read_after
cable-outside = refl

-- one item of subtitles
subtitling-row : read_page subtitling (bits_of (0x66 ∷ 0x72 ∷ 0x61 ∷ 0x10 ∷ 0x00 ∷ 0x01 ∷ 0x00 ∷ 0x02 ∷ []))
    ≡ Some (record { head = []; items = (bytes (codes "fra") ∷ number 16 ∷ number 1 ∷ number 2 ∷ []) ∷ [] })
unfolding bits number_of read_number read_bytes read_rest read_field read_rows read_page read_after read_items
subtitling-row = refl

-- the page of a tag
tag-row : page_of 0x44 ≡ Some cable
tag-row = refl

-- a tag of a broadcaster's own has none
own-row : page_of 0x83 ≡ None
own-row = refl
