-- Worked rows of the texts of `info`, computed on the definitions.
use Rattle.std.proofs.Common.{◌≡◌, ℕ, List, [], ◌∷◌, ◌++◌, codes, refl, None, Some}
use Rattle.std.specs.Fmt.{digits}
use Rattle.hex.specs.Hex.{encode_with}
use Rattle.std.specs.Str.{chars, is_utf8}
use lib.Utf8.{encode}
use Rattle.plugin_notes.specs.PidPackets.{numbers_below}
use Rattle.ts_bits.specs.TaggedBody.{TaggedBody}
use Rattle.ts_charsets.specs.AlphabetTexts.{single_chars}
use Rattle.ts_charsets.specs.ShownTexts.{shown_text}
use Rattle.ts_charsets.specs.TextTables.{tabled_text}
use Rattle.ts_fields.specs.Texts.{text_of}
use Rattle.plug_info_texts.specs.InfoJson.{array, bytes_field, component_json, component_marks, stream_json, text_or_hex, type_json, whole_json}
use Rattle.plug_info_texts.specs.InfoTexts.{component_text, hundredths, marks_text, percent, pid_text, portion_text, rate_part, rate_text, sdt_texts, service_head, service_tail, shown_name, stream_text, type_text}
use Rattle.plug_info_texts.specs.Rounding.{rounded}
use Rattle.named_services.specs.ServiceNames.{name_in}

-- a language and a codec stand once, and four letters of a registration_descriptor count where a line can have them
abbrev marked : List TaggedBody
marked = record { tag = 0x05; body = codes "Opus" } ∷ record { tag = 0x7F; body = 0x15 ∷ [] } ∷ record { tag = 0x7F; body = 0x15 ∷ 0 ∷ [] }
    ∷ record { tag = 0x0A; body = codes "eng" ++ (3 ∷ (codes "eng" ++ (0 ∷ (codes "fra" ++ (0 ∷ []))))) } ∷ []

marks-row : marks_text marked (0x0B00 ∷ []) ≡ codes " codec Opus codec AC-4 language \"eng\" language \"fra\" audio_type 3 ca 2816"
unfolding digits numbers_below
marks-row = refl

marks-json : component_marks marked (0x0B00 ∷ []) ≡ codes ",\"languages\":[\"eng\",\"fra\"],\"codecs\":[\"Opus\",\"AC-4\"],\"audio_type\":3,\"ca\":[2816],"
unfolding digits numbers_below chars encode
marks-json = refl

marks-none : marks_text (record { tag = 0x05; body = codes "a\"bc" } ∷ record { tag = 0x05; body = codes "AC" } ∷ record { tag = 0x7F; body = [] } ∷ []) [] ≡ []
unfolding numbers_below
marks-none = refl

-- two thirds are nearer to 1, a third to 0, and a half is rounded up
rounded-up : rounded 2 3 ≡ 1
unfolding rounded
rounded-up = refl

rounded-down : rounded 1 3 ≡ 0
unfolding rounded
rounded-down = refl

rounded-half : rounded 5 2 ≡ 3
unfolding rounded
rounded-half = refl

-- a share of 25.616 %, one of a third, and one that is half of a hundredth; any share of nothing is 0
share-row : percent (hundredths 3202 12500) ≡ codes "25.62%"
unfolding digits rounded
share-row = refl

share-third : percent (hundredths 1 3) ≡ codes "33.33%"
unfolding digits rounded
share-third = refl

share-small : percent (hundredths 1 20000) ≡ codes "0.01%"
unfolding digits rounded
share-small = refl

share-none : percent (hundredths 0 0) ≡ codes "0.00%"
unfolding digits
share-none = refl

-- a name in ASCII, one after 0x15, ones in ISO 8859-9, in ISO 8859-5 and in ISO 6937, one with a byte that has no character, and one
-- with a quotation mark
plain-row : shown_name (codes "BBC 1") ≡ codes "\"BBC 1\""
unfolding chars encode encode_with is_utf8 shown_text single_chars tabled_text
plain-row = refl

utf8-row : shown_name (0x15 ∷ 0xC3 ∷ 0x9C ∷ []) ≡ 0x22 ∷ 0xC3 ∷ 0x9C ∷ 0x22 ∷ []
unfolding chars encode encode_with is_utf8 shown_text single_chars tabled_text
utf8-row = refl

turkish-row : shown_name (0x05 ∷ (codes "Das Erste " ++ (0xFC ∷ []))) ≡ codes "\"Das Erste " ++ (0xC3 ∷ 0xBC ∷ 0x22 ∷ [])
unfolding chars encode encode_with is_utf8 shown_text single_chars tabled_text
turkish-row = refl

cyrillic-row : shown_name (0x01 ∷ 0xBD ∷ 0xDE ∷ []) ≡ 0x22 ∷ 0xD0 ∷ 0x9D ∷ 0xD0 ∷ 0xBE ∷ 0x22 ∷ []
unfolding chars encode encode_with is_utf8 shown_text single_chars tabled_text
cyrillic-row = refl

latin-row : shown_name (0x86 ∷ (codes "Kan" ++ (0xC2 ∷ 0x61 ∷ 0x87 ∷ 0x8A ∷ codes "1"))) ≡ codes "\"Kan" ++ (0xC3 ∷ 0xA1 ∷ codes " 1\"")
unfolding chars encode encode_with is_utf8 shown_text single_chars tabled_text
latin-row = refl

other-row : shown_name (0x05 ∷ 0x80 ∷ []) ≡ codes "0x0580"
unfolding chars encode encode_with is_utf8 shown_text single_chars tabled_text
other-row = refl

quote-row : shown_name (codes "a\"b") ≡ codes "0x612262"
unfolding chars encode encode_with is_utf8 shown_text single_chars tabled_text
quote-row = refl

-- U+009B, with which a terminal's commands begin, and U+00A0, which is no control character
control-row : shown_name (0x15 ∷ 0xC2 ∷ 0x9B ∷ 0x4A ∷ []) ≡ codes "0x15c29b4a"
unfolding chars encode encode_with is_utf8 shown_text single_chars tabled_text
control-row = refl

space-row : shown_name (0x15 ∷ 0xC2 ∷ 0xA0 ∷ []) ≡ 0x22 ∷ 0xC2 ∷ 0xA0 ∷ 0x22 ∷ []
unfolding chars encode encode_with is_utf8 shown_text single_chars tabled_text
space-row = refl

-- a service_descriptor, and one whose name is truncated
abbrev body : List ℕ
body = 0x01 ∷ 0x03 ∷ (codes "BBC" ++ (0x01 ∷ codes "1"))

head-row : service_head 7 (Some body) ≡ codes "service 7 type 1 (digital television) name \"1\" provider \"BBC\""
unfolding chars encode encode_with is_utf8 shown_text single_chars tabled_text digits
head-row = refl

cut-row : name_in (Some (0x01 ∷ 0x01 ∷ 0x41 ∷ 0x05 ∷ 0x41 ∷ [])) ≡ None
cut-row = refl

tail-row : service_tail 4096 None (portion_text (record { whole = 4; extent = 4; rate = Some 1000 }) 3) ≡ codes " pmt 4096 pcr none packets 3 share 75.00% bitrate 750"
unfolding digits rounded
tail-row = refl

-- 1000 bits pass in a second and half of the positions were dropped: 4 packets among 8 positions have half of these
dropped-row : portion_text (record { whole = 4; extent = 8; rate = Some 1000 }) 3 ≡ codes " packets 3 share 75.00% bitrate 375"
unfolding digits rounded
dropped-row = refl

dropped-whole : stream_text (record { packets = 4; extent = 8; stream_id = Some 1; rate = Some 1000; breaks = Some 2; nulls = 0; errored = 0; scrambled = 0; faults = 0 })
    ≡ codes "stream packets 4 bytes 752 transport_stream_id 1 bitrate 500 breaks 2 nulls 0 share 0.00% errored 0 scrambled 0 faults 0"
unfolding digits rounded
dropped-whole = refl

-- two of three packets have two thirds of 1000 bits in a second, which are nearer to 667 than to 666
rate-row : rate_part (Some 1000) 2 3 ≡ Some 667
unfolding rounded
rate-row = refl

-- without a rate, and among no positions, there is none
rate-none : rate_text None 2 3 ≡ codes "none"
rate-none = refl

rate-nowhere : rate_text (Some 1000) 0 0 ≡ codes "none"
rate-nowhere = refl

-- service types: HEVC of ultra-high definition, one that no standard defines, and none
type-row : type_text (Some 0x20) ≡ codes "32 (HEVC UHD digital television)"
unfolding digits
type-row = refl

type-other : type_text (Some 0x80) ≡ codes "128 (unknown)"
unfolding digits
type-other = refl

type-none : type_text None ≡ codes "none"
type-none = refl

-- a component that two services have, and a PID of a table, without a rate
component-row : component_text (record { whole = 8; extent = 8; rate = None }) 256 1 27 (codes " codec AVC") (record { packets = 4; scrambled = 1; faults = 2 }) 2
    ≡ codes "component 256 service 1 stream_type 27 (AVC video) codec AVC packets 4 share 50.00% bitrate none scrambled 1 faults 2 shared 2"
unfolding digits rounded
component-row = refl

pid-row : pid_text 17 (codes "SDT, BAT") (portion_text (record { whole = 8; extent = 8; rate = None }) 1) (record { packets = 1; scrambled = 0; faults = 0 })
    ≡ codes "pid 17 (SDT, BAT) packets 1 share 12.50% bitrate none scrambled 0 faults 0"
unfolding digits rounded
pid-row = refl

-- an SDT of another transport stream than the PAT's is reported, and one of the same is not
sdt-row : sdt_texts (Some 1) (Some 2) ≡ codes "sdt of transport_stream_id 2" ∷ []
unfolding digits
sdt-row = refl

sdt-same : sdt_texts (Some 1) (Some 1) ≡ []
sdt-same = refl

-- arrays of no items and of two
array-none : array [] ≡ codes "[]"
array-none = refl

array-two : array (codes "1" ∷ codes "2" ∷ []) ≡ codes "[1,2]"
array-two = refl

-- a name that is a text, one with a byte that has no character, a quotation mark, a backslash, a control character, and no name
json-plain : bytes_field (codes "name") (Some (codes "BBC 1")) ≡ codes "\"name\":\"BBC 1\""
unfolding chars encode encode_with is_utf8 shown_text single_chars tabled_text
json-plain = refl

json-other : bytes_field (codes "name") (Some (0x05 ∷ 0x80 ∷ [])) ≡ codes "\"name_hex\":\"0580\""
unfolding chars encode encode_with is_utf8 shown_text single_chars tabled_text
json-other = refl

json-quote : bytes_field (codes "name") (Some (codes "a\"b")) ≡ codes "\"name\":\"a\\\"b\""
unfolding chars encode encode_with is_utf8 shown_text single_chars tabled_text
json-quote = refl

json-backslash : text_or_hex (codes "a\\b") (text_of (codes "a\\b")) ≡ codes "\"a\\\\b\""
unfolding is_utf8 chars encode
json-backslash = refl

json-control : bytes_field (codes "name") (Some (0x15 ∷ 0xC2 ∷ 0x80 ∷ [])) ≡ codes "\"name_hex\":\"15c280\""
unfolding chars encode encode_with is_utf8 shown_text single_chars tabled_text
json-control = refl

json-none : bytes_field (codes "name") None ≡ codes "\"name\":null"
json-none = refl

-- a service type with its name, one without a name, and none
json-type : type_json (Some 2) ≡ codes "2,\"type_name\":\"digital radio sound\""
unfolding digits
json-type = refl

json-type_other : type_json (Some 0x80) ≡ codes "128,\"type_name\":null"
unfolding digits
json-type_other = refl

json-type_none : type_json None ≡ codes "null,\"type_name\":null"
json-type_none = refl

-- a component with a language and no codec, which two services have, without a rate
json-component : component_json (record { whole = 8; extent = 8; rate = None }) 256 3 (record { tag = 0x0A; body = codes "eng" ++ (0 ∷ []) } ∷ []) [] (record { packets = 4; scrambled = 1; faults = 2 }) 2
    ≡ codes "{\"pid\":256,\"stream_type\":3,\"stream_type_name\":\"MPEG-1 audio\",\"languages\":[\"eng\"],\"codecs\":[],\"audio_type\":null,\"ca\":[],\"packets\":4,\"bitrate\":null,\"scrambled\":1,\"faults\":2,\"services\":2}"
unfolding digits numbers_below chars encode
json-component = refl

-- a stream without tables
json-whole : whole_json (stream_json (record { packets = 2; extent = 2; stream_id = None; rate = None; breaks = None; nulls = 2; errored = 0; scrambled = 0; faults = 0 })) (codes "null") (array []) (array []) (array [])
    ≡ codes "{\"stream\":{\"packets\":2,\"bytes\":376,\"transport_stream_id\":null,\"bitrate\":null,\"breaks\":null,\"nulls\":2,\"errored\":0,\"scrambled\":0,\"faults\":0},\"sdt_transport_stream_id\":null,\"ca\":[],\"services\":[],\"pids\":[]}"
unfolding digits
json-whole = refl
