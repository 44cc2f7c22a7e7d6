-- Worked rows: each descriptor's page computed on bytes that other tools wrote, with the values that other tools
-- read. The bytes are in tests/data/bits_si.ts, which the encoders of biTStream made, and in tests/data/dvbpsi_si.ts,
-- made by those of libdvbpsi. The values are those that tshark 4.0.17 shows; where it shows Hz, MHz, GHz, Msymbol/s
-- or degrees, they are in the units of the field (ETSI EN 300 468, 6.2.13). Of several languages or countries tshark
-- shows only one: those rows have the values that libdvbpsi shows.
use Rattle.std.proofs.Common.{◌≡◌, ◌∷◌, [], refl}
use Rattle.std.specs.Prelude.{Some, codes}
use Rattle.ts_fields.specs.Bits.{bits, number_of}
use Rattle.ts_fields.specs.Layout.{number, bytes}
use Rattle.ts_fields.specs.Reading.{read_number, read_bytes, read_decimal, read_rest, read_field, read_rows}
use Rattle.ts_fields.specs.Bodies.{read_page, read_after, read_items}
use Rattle.ts_pages.specs.MpegPages.{registration, data_stream_alignment, ca, language, maximum_bitrate}
use Rattle.ts_pages.specs.DvbPages.{network_name, service_list, bouquet_name, service, short_event, component, stream_identifier, ca_identifier, content, parental_rating, teletext, subtitling, private_data_specifier}
use Rattle.ts_pages.specs.DeliveryPages.{satellite, cable, terrestrial}
use Rattle.ts_pages.specs.Pages.{pages}
use Rattle.ts_descr.specs.Descriptors.{read_typed, typed_fields, typed_items}

-- 0x05: a format identifier of four bytes, in bits_si.ts
registration-row : read_typed pages (record { tag = 0x05; body = 0x54 ∷ 0x45 ∷ 0x53 ∷ 0x54 ∷ [] })
    ≡ Some (typed_fields registration (number 1413829460 ∷ bytes [] ∷ []))
unfolding read_typed read_page read_after read_items read_rows read_field read_number read_bytes read_decimal read_rest bits number_of
registration-row = refl

-- 0x06: video access units, in bits_si.ts
alignment-row : read_typed pages (record { tag = 0x06; body = 0x02 ∷ [] })
    ≡ Some (typed_fields data_stream_alignment (number 2 ∷ []))
unfolding read_typed read_page read_after read_items read_rows read_field read_number read_bytes read_decimal read_rest bits number_of
alignment-row = refl

-- 0x09: a system with private bytes, in dvbpsi_si.ts
ca-row : read_typed pages (record {
  tag = 0x09;
  body = 0x18 ∷ 0x00 ∷ 0xFF ∷ 0xFE ∷ 0x70 ∷ 0x72 ∷ 0x69 ∷ 0x76 ∷ 0x61
      ∷ 0x74 ∷ 0x65 ∷ 0x20 ∷ 0x43 ∷ 0x41 ∷ 0x20 ∷ 0x62 ∷ 0x79 ∷ 0x74 ∷ 0x65 ∷ 0x73 ∷ [];
})
    ≡ Some (typed_fields ca (number 6144 ∷ number 8190 ∷ bytes (0x70 ∷ 0x72 ∷ 0x69 ∷ 0x76 ∷ 0x61 ∷ 0x74 ∷ 0x65 ∷ 0x20 ∷
    0x43 ∷ 0x41 ∷ 0x20 ∷ 0x62 ∷ 0x79 ∷ 0x74 ∷ 0x65 ∷ 0x73 ∷ []) ∷ []))
unfolding read_typed read_page read_after read_items read_rows read_field read_number read_bytes read_decimal read_rest bits number_of
ca-row = refl

-- 0x0A: one language, in dvbpsi_si.ts
language-row : read_typed pages (record { tag = 0x0A; body = 0x65 ∷ 0x6E ∷ 0x67 ∷ 0x01 ∷ [] })
    ≡ Some (typed_items language ((bytes (codes "eng") ∷ number 1 ∷ []) ∷ []))
unfolding read_typed read_page read_after read_items read_rows read_field read_number read_bytes read_decimal read_rest bits number_of
language-row = refl

-- 0x0A: three languages, as libdvbpsi shows them, in dvbpsi_si.ts
languages-row : read_typed pages (record {
  tag = 0x0A;
  body = 0x66 ∷ 0x72 ∷ 0x61 ∷ 0x00 ∷ 0x65 ∷ 0x6E ∷ 0x67 ∷ 0x02
      ∷ 0x71 ∷ 0x61 ∷ 0x61 ∷ 0x03 ∷ [];
})
    ≡ Some (typed_items language ((bytes (codes "fra") ∷ number 0 ∷ []) ∷ (bytes (codes "eng") ∷ number 2 ∷ []) ∷ (bytes
    (codes "qaa") ∷ number 3 ∷ []) ∷ []))
unfolding read_typed read_page read_after read_items read_rows read_field read_number read_bytes read_decimal read_rest bits number_of
languages-row = refl

-- 0x0E: in units of 50 bytes per second, in bits_si.ts
bitrate-row : read_typed pages (record { tag = 0x0E; body = 0xC1 ∷ 0xE2 ∷ 0x40 ∷ [] })
    ≡ Some (typed_fields maximum_bitrate (number 123456 ∷ []))
unfolding read_typed read_page read_after read_items read_rows read_field read_number read_bytes read_decimal read_rest bits number_of
bitrate-row = refl

-- 0x40: a name, in bits_si.ts
network-name-row : read_typed pages (record {
  tag = 0x40;
  body = 0x54 ∷ 0x65 ∷ 0x73 ∷ 0x74 ∷ 0x20 ∷ 0x4E ∷ 0x65 ∷
      0x74 ∷ 0x77 ∷ 0x6F ∷ 0x72 ∷ 0x6B ∷ 0x20 ∷ 0x4E ∷ 0x61 ∷ 0x6D ∷ 0x65 ∷ [];
})
    ≡ Some (typed_fields network_name (bytes (codes "Test Network Name") ∷ []))
unfolding read_typed read_page read_after read_items read_rows read_field read_number read_bytes read_decimal read_rest bits number_of
network-name-row = refl

-- 0x41: four services, in bits_si.ts
service-list-row : read_typed pages (record {
  tag = 0x41;
  body = 0x4E ∷ 0x20 ∷ 0x01 ∷ 0x4E ∷ 0x84 ∷ 0x02 ∷ 0x4E ∷
      0xE8 ∷ 0x01 ∷ 0x4F ∷ 0x4C ∷ 0x02 ∷ [];
})
    ≡ Some (typed_items service_list ((number 20000 ∷ number 1 ∷ []) ∷ (number 20100 ∷ number 2 ∷ []) ∷ (number 20200 ∷
    number 1 ∷ []) ∷ (number 20300 ∷ number 2 ∷ []) ∷ []))
unfolding read_typed read_page read_after read_items read_rows read_field read_number read_bytes read_decimal read_rest bits number_of
service-list-row = refl

-- 0x43: 11.7275 GHz at 19.2 degrees, 27.5 Msymbol/s, in dvbpsi_si.ts
satellite-row : read_typed pages (record {
  tag = 0x43;
  body = 0x01 ∷ 0x17 ∷ 0x27 ∷ 0x50 ∷ 0x01 ∷ 0x92 ∷ 0xAE ∷ 0x02
      ∷ 0x75 ∷ 0x00 ∷ 0x03 ∷ [];
})
    ≡ Some (typed_fields satellite (number 1172750 ∷ number 192 ∷ number 1 ∷ number 1 ∷ number 1 ∷ number 1 ∷ number 2 ∷
    number 275000 ∷ number 3 ∷ []))
unfolding read_typed read_page read_after read_items read_rows read_field read_number read_bytes read_decimal read_rest bits number_of
satellite-row = refl

-- 0x44: 312 MHz, 27.45 Msymbol/s, in bits_si.ts
cable-row : read_typed pages (record {
  tag = 0x44;
  body = 0x03 ∷ 0x12 ∷ 0x00 ∷ 0x00 ∷ 0xFF ∷ 0xF0 ∷ 0x03 ∷ 0x02 ∷
      0x74 ∷ 0x50 ∷ 0x06 ∷ [];
})
    ≡ Some (typed_fields cable (number 3120000 ∷ number 0 ∷ number 3 ∷ number 274500 ∷ number 6 ∷ []))
unfolding read_typed read_page read_after read_items read_rows read_field read_number read_bytes read_decimal read_rest bits number_of
cable-row = refl

-- 0x47: a name, in bits_si.ts
bouquet-name-row : read_typed pages (record {
  tag = 0x47;
  body = 0x54 ∷ 0x65 ∷ 0x73 ∷ 0x74 ∷ 0x20 ∷ 0x42 ∷ 0x6F ∷
      0x75 ∷ 0x71 ∷ 0x75 ∷ 0x65 ∷ 0x74 ∷ 0x20 ∷ 0x4E ∷ 0x61 ∷ 0x6D ∷ 0x65 ∷ [];
})
    ≡ Some (typed_fields bouquet_name (bytes (codes "Test Bouquet Name") ∷ []))
unfolding read_typed read_page read_after read_items read_rows read_field read_number read_bytes read_decimal read_rest bits number_of
bouquet-name-row = refl

-- 0x48: a provider and a name, in bits_si.ts
service-row : read_typed pages (record {
  tag = 0x48;
  body = 0x01 ∷ 0x12 ∷ 0x54 ∷ 0x65 ∷ 0x73 ∷ 0x74 ∷ 0x20 ∷ 0x50 ∷
      0x72 ∷ 0x6F ∷ 0x76 ∷ 0x69 ∷ 0x64 ∷ 0x65 ∷ 0x72 ∷ 0x20 ∷ 0x4E ∷ 0x61 ∷ 0x6D ∷ 0x65 ∷ 0x11 ∷ 0x54 ∷ 0x65 ∷ 0x73 ∷
      0x74 ∷ 0x20 ∷ 0x53 ∷ 0x65 ∷ 0x72 ∷ 0x76 ∷ 0x69 ∷ 0x63 ∷ 0x65 ∷ 0x20 ∷ 0x4E ∷ 0x61 ∷ 0x6D ∷ 0x65 ∷ [];
})
    ≡ Some (typed_fields service (number 1 ∷ bytes (codes "Test Provider Name") ∷ bytes (codes "Test Service Name") ∷
    []))
unfolding read_typed read_page read_after read_items read_rows read_field read_number read_bytes read_decimal read_rest bits number_of
service-row = refl

-- 0x4D: a name and a text, in bits_si.ts
short-event-row : read_typed pages (record {
  tag = 0x4D;
  body = 0x65 ∷ 0x6E ∷ 0x67 ∷ 0x0E ∷ 0x4D ∷ 0x61 ∷ 0x6A ∷
      0x6F ∷ 0x72 ∷ 0x20 ∷ 0x54 ∷ 0x56 ∷ 0x20 ∷ 0x65 ∷ 0x76 ∷ 0x65 ∷ 0x6E ∷ 0x74 ∷ 0x19 ∷ 0x54 ∷ 0x68 ∷ 0x65 ∷ 0x20 ∷
      0x65 ∷ 0x76 ∷ 0x65 ∷ 0x6E ∷ 0x74 ∷ 0x20 ∷ 0x6F ∷ 0x66 ∷ 0x20 ∷ 0x74 ∷ 0x68 ∷ 0x65 ∷ 0x20 ∷ 0x63 ∷ 0x65 ∷ 0x6E ∷
      0x74 ∷ 0x75 ∷ 0x72 ∷ 0x79 ∷ 0x21 ∷ [];
})
    ≡ Some (typed_fields short_event (bytes (codes "eng") ∷ bytes (codes "Major TV event") ∷ bytes (codes
    "The event of the century!") ∷ []))
unfolding read_typed read_page read_after read_items read_rows read_field read_number read_bytes read_decimal read_rest bits number_of
short-event-row = refl

-- 0x50: audio in English, in bits_si.ts
component-row : read_typed pages (record {
  tag = 0x50;
  body = 0xF2 ∷ 0x03 ∷ 0x2E ∷ 0x65 ∷ 0x6E ∷ 0x67 ∷ 0x53 ∷ 0x74
      ∷ 0x65 ∷ 0x72 ∷ 0x65 ∷ 0x6F ∷ [];
})
    ≡ Some (typed_fields component (number 15 ∷ number 2 ∷ number 3 ∷ number 46 ∷ bytes (codes "eng") ∷ bytes (codes
    "Stereo") ∷ []))
unfolding read_typed read_page read_after read_items read_rows read_field read_number read_bytes read_decimal read_rest bits number_of
component-row = refl

-- 0x52: a component_tag, in bits_si.ts
stream-identifier-row : read_typed pages (record { tag = 0x52; body = 0x2E ∷ [] })
    ≡ Some (typed_fields stream_identifier (number 46 ∷ []))
unfolding read_typed read_page read_after read_items read_rows read_field read_number read_bytes read_decimal read_rest bits number_of
stream-identifier-row = refl

-- 0x53: three systems, in bits_si.ts
ca-identifier-row : read_typed pages (record { tag = 0x53; body = 0xAA ∷ 0xBB ∷ 0xCC ∷ 0xDD ∷ 0xEE ∷ 0xFF ∷ [] })
    ≡ Some (typed_items ca_identifier ((number 43707 ∷ []) ∷ (number 52445 ∷ []) ∷ (number 61183 ∷ []) ∷ []))
unfolding read_typed read_page read_after read_items read_rows read_field read_number read_bytes read_decimal read_rest bits number_of
ca-identifier-row = refl

-- 0x54: two genres, in bits_si.ts
content-row : read_typed pages (record { tag = 0x54; body = 0x24 ∷ 0x4E ∷ 0x68 ∷ 0xB1 ∷ [] })
    ≡ Some (typed_items content ((number 2 ∷ number 4 ∷ number 78 ∷ []) ∷ (number 6 ∷ number 8 ∷ number 177 ∷ []) ∷ []))
unfolding read_typed read_page read_after read_items read_rows read_field read_number read_bytes read_decimal read_rest bits number_of
content-row = refl

-- 0x55: one country, in dvbpsi_si.ts
parental-rating-row : read_typed pages (record { tag = 0x55; body = 0x46 ∷ 0x52 ∷ 0x41 ∷ 0x07 ∷ [] })
    ≡ Some (typed_items parental_rating ((bytes (codes "FRA") ∷ number 7 ∷ []) ∷ []))
unfolding read_typed read_page read_after read_items read_rows read_field read_number read_bytes read_decimal read_rest bits number_of
parental-rating-row = refl

-- 0x55: four countries, as libdvbpsi shows them, in bits_si.ts
parental-ratings-row : read_typed pages (record {
  tag = 0x55;
  body = 0x55 ∷ 0x53 ∷ 0x41 ∷ 0x00 ∷ 0x43 ∷ 0x48 ∷ 0x49
      ∷ 0x0F ∷ 0x46 ∷ 0x52 ∷ 0x41 ∷ 0x0C ∷ 0x42 ∷ 0x55 ∷ 0x4C ∷ 0x18 ∷ [];
})
    ≡ Some (typed_items parental_rating ((bytes (codes "USA") ∷ number 0 ∷ []) ∷ (bytes (codes "CHI") ∷ number 15 ∷ [])
    ∷ (bytes (codes "FRA") ∷ number 12 ∷ []) ∷ (bytes (codes "BUL") ∷ number 24 ∷ []) ∷ []))
unfolding read_typed read_page read_after read_items read_rows read_field read_number read_bytes read_decimal read_rest bits number_of
parental-ratings-row = refl

-- 0x56: three languages, in bits_si.ts
teletext-row : read_typed pages (record {
  tag = 0x56;
  body = 0x65 ∷ 0x6E ∷ 0x67 ∷ 0x0B ∷ 0xFF ∷ 0x62 ∷ 0x75 ∷ 0x6C ∷
      0x12 ∷ 0x7F ∷ 0x66 ∷ 0x72 ∷ 0x65 ∷ 0x19 ∷ 0x40 ∷ [];
})
    ≡ Some (typed_items teletext ((bytes (codes "eng") ∷ number 1 ∷ number 3 ∷ number 255 ∷ []) ∷ (bytes (codes "bul") ∷
    number 2 ∷ number 2 ∷ number 127 ∷ []) ∷ (bytes (codes "fre") ∷ number 3 ∷ number 1 ∷ number 64 ∷ []) ∷ []))
unfolding read_typed read_page read_after read_items read_rows read_field read_number read_bytes read_decimal read_rest bits number_of
teletext-row = refl

-- 0x59: three languages, in bits_si.ts
subtitling-row : read_typed pages (record {
  tag = 0x59;
  body = 0x65 ∷ 0x6E ∷ 0x67 ∷ 0x01 ∷ 0x00 ∷ 0x02 ∷ 0x00 ∷ 0x03
      ∷ 0x62 ∷ 0x75 ∷ 0x6C ∷ 0x02 ∷ 0x00 ∷ 0x03 ∷ 0x00 ∷ 0x04 ∷ 0x66 ∷ 0x72 ∷ 0x65 ∷ 0x05 ∷ 0x00 ∷ 0x06 ∷ 0x00 ∷ 0x07
      ∷ [];
})
    ≡ Some (typed_items subtitling ((bytes (codes "eng") ∷ number 1 ∷ number 2 ∷ number 3 ∷ []) ∷ (bytes (codes "bul") ∷
    number 2 ∷ number 3 ∷ number 4 ∷ []) ∷ (bytes (codes "fre") ∷ number 5 ∷ number 6 ∷ number 7 ∷ []) ∷ []))
unfolding read_typed read_page read_after read_items read_rows read_field read_number read_bytes read_decimal read_rest bits number_of
subtitling-row = refl

-- 0x5A: 490 MHz, in units of 10 Hz, in dvbpsi_si.ts
terrestrial-row : read_typed pages (record {
  tag = 0x5A;
  body = 0x02 ∷ 0xEB ∷ 0xAE ∷ 0x40 ∷ 0x1F ∷ 0x81 ∷ 0x93 ∷
      0xFF ∷ 0xFF ∷ 0xFF ∷ 0xFF ∷ [];
})
    ≡ Some (typed_fields terrestrial (number 49000000 ∷ number 0 ∷ number 1 ∷ number 1 ∷ number 1 ∷ number 2 ∷ number 0
    ∷ number 1 ∷ number 4 ∷ number 2 ∷ number 1 ∷ number 1 ∷ []))
unfolding read_typed read_page read_after read_items read_rows read_field read_number read_bytes read_decimal read_rest bits number_of
terrestrial-row = refl

-- 0x5F: a specifier of the private descriptors after it, in bits_si.ts
private-data-specifier-row : read_typed pages (record { tag = 0x5F; body = 0xAA ∷ 0xBB ∷ 0xCC ∷ 0xDD ∷ [] })
    ≡ Some (typed_fields private_data_specifier (number 2864434397 ∷ []))
unfolding read_typed read_page read_after read_items read_rows read_field read_number read_bytes read_decimal read_rest bits number_of
private-data-specifier-row = refl
