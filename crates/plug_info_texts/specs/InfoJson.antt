-- The texts of `info --json`. RFC 8259 defines the form of objects, arrays, numbers and strings; the keys and their
-- order are this project's own.
use Rattle.std.specs.Prelude.{ℕ, ◌*◌, List, [], ◌∷◌, ◌++◌, map, Option, None, Some, codes, if◌then◌else◌}
use Rattle.std.specs.List.{flat_map}
use Rattle.std.specs.Fmt.{decimal}
use Rattle.hex.specs.Hex.{encode_lower}
use Rattle.ts_bits.specs.TaggedBody.{TaggedBody}
use Rattle.ts_charsets.specs.ShownTexts.{shown_text}
use Rattle.ts_fields.specs.Texts.{text_of}
use Rattle.ts_packet.specs.declared.numbers.TheConstants.{PACKET_SIZE}
use Rattle.plug_info_texts.specs.InfoNames.{service_type_names, stream_type_names, text_for}
use Rattle.plug_info_texts.specs.InfoTexts.{hex_text, rate_part}
use Rattle.plug_info_texts.specs.Marks.{audio_type_of, codecs_of, languages_of}
use Rattle.plug_info_texts.specs.PlainTexts.{escaped, is_harmless}
use Rattle.named_services.specs.ServiceNames.{name_in, provider_in, type_in}
use Rattle.plug_info_texts.specs.declared.pid_numbers.PidNumbers.{PidNumbers}
use Rattle.plug_info_texts.specs.declared.scene.Scene.{Scene}
use Rattle.plug_info_texts.specs.declared.stream_numbers.StreamNumbers.{StreamNumbers}

-- a text after a comma
abbrev pub after_comma : List ℕ → List ℕ
after_comma text = codes "," ++ text

-- texts separated by commas
abbrev pub joined : List (List ℕ) → List ℕ
joined [] = []
joined (text ∷ texts) = text ++ flat_map after_comma texts

-- an array of texts
abbrev pub array : List (List ℕ) → List ℕ
array texts = codes "[" ++ (joined texts ++ codes "]")

-- a number, or `null`
abbrev pub number_or_null : Option ℕ → List ℕ
number_or_null None = codes "null"
number_or_null (Some n) = decimal n

-- a text in quotation marks; each of its bytes has to be allowed there as it is
abbrev pub quoted : List ℕ → List ℕ
quoted text = codes "\"" ++ (text ++ codes "\"")

-- a name in quotation marks, or `null`
abbrev pub name_or_null : Option (List ℕ) → List ℕ
name_or_null None = codes "null"
name_or_null (Some name) = quoted name

-- `"<key>_hex":"<digits>"`
abbrev pub hex_field : List ℕ → List ℕ → List ℕ
hex_field key bytes = codes "\"" ++ (key ++ (codes "_hex\":\"" ++ (encode_lower bytes ++ codes "\"")))

-- `"<key>":"<text>"`, if the bytes are a text without control characters, else their digits
abbrev pub text_field : List ℕ → List ℕ → Option (List ℕ) → List ℕ
text_field key bytes None = hex_field key bytes
text_field key bytes (Some text) =
    if is_harmless text then codes "\"" ++ (key ++ (codes "\":\"" ++ (escaped text ++ codes "\""))) else hex_field key bytes

-- the same, or `"<key>":null` if there are no bytes
abbrev pub bytes_field : List ℕ → Option (List ℕ) → List ℕ
bytes_field key None = codes "\"" ++ (key ++ codes "\":null")
bytes_field key (Some bytes) = text_field key bytes (shown_text bytes)

-- the hexadecimal digits of bytes in quotation marks
abbrev pub quoted_hex : List ℕ → List ℕ
quoted_hex bytes = quoted (hex_text bytes)

-- bytes in quotation marks: as a text, if they are one without control characters, else as digits after `0x`
abbrev pub text_or_hex : List ℕ → Option (List ℕ) → List ℕ
text_or_hex bytes None = quoted_hex bytes
text_or_hex bytes (Some text) = if is_harmless text then quoted (escaped text) else quoted_hex bytes

-- the bit rate of some packets among these positions, or `null`
abbrev pub rate_json : Option ℕ → ℕ → ℕ → List ℕ
rate_json rate part whole = number_or_null (rate_part rate part whole)

-- `"packets":<n>,"bitrate":<n>`
abbrev pub portion_json : Scene → ℕ → List ℕ
portion_json scene packets = codes "\"packets\":"
    ++ (decimal packets ++ (codes ",\"bitrate\":" ++ rate_json scene.rate packets scene.extent))

-- `,"scrambled":<n>,"faults":<n>`
abbrev pub troubles_json : PidNumbers → List ℕ
troubles_json numbers = codes ",\"scrambled\":" ++ (decimal numbers.scrambled ++ (codes ",\"faults\":" ++ decimal numbers.faults))

-- the first half of the object of the stream: `{"packets":<n>,"bytes":<n>,"transport_stream_id":<id>,"bitrate":<n>`
abbrev pub stream_head : StreamNumbers → List ℕ
stream_head s = codes "{\"packets\":" ++ (decimal s.packets ++ (codes ",\"bytes\":" ++ (decimal (s.packets * PACKET_SIZE)
    ++ (codes ",\"transport_stream_id\":" ++ (number_or_null s.stream_id ++ (codes ",\"bitrate\":" ++ rate_json s.rate s.packets s.extent))))))

-- its second half: `,"breaks":<n>,"nulls":<n>,"errored":<n>,"scrambled":<n>,"faults":<n>}`
abbrev pub stream_tail : StreamNumbers → List ℕ
stream_tail s = codes ",\"breaks\":" ++ (number_or_null s.breaks ++ (codes ",\"nulls\":" ++ (decimal s.nulls
    ++ (codes ",\"errored\":" ++ (decimal s.errored ++ (codes ",\"scrambled\":" ++ (decimal s.scrambled
    ++ (codes ",\"faults\":" ++ (decimal s.faults ++ codes "}")))))))))

-- the object of the stream
abbrev pub stream_json : StreamNumbers → List ℕ
stream_json s = stream_head s ++ stream_tail s

-- `<n>,"type_name":<name>` of a service_type
abbrev pub type_json : Option ℕ → List ℕ
type_json None = codes "null,\"type_name\":null"
type_json (Some kind) = decimal kind ++ (codes ",\"type_name\":" ++ name_or_null (text_for service_type_names kind))

-- `{"id":<n>,"type":<n>,"type_name":<name>,` name and provider, from the body of its service_descriptor
abbrev pub service_head : ℕ → Option (List ℕ) → List ℕ
service_head id body = codes "{\"id\":" ++ (decimal id ++ (codes ",\"type\":" ++ (type_json (type_in body)
    ++ (codes "," ++ (bytes_field (codes "name") (name_in body) ++ (codes "," ++ bytes_field (codes "provider") (provider_in body)))))))

-- `,"pmt":<pid>,"pcr":<pid>,` its share, and `,"components":<array>}`
abbrev pub service_tail : ℕ → Option ℕ → List ℕ → List ℕ → List ℕ
service_tail pmt pcr portion components = codes ",\"pmt\":" ++ (decimal pmt ++ (codes ",\"pcr\":" ++ (number_or_null pcr
    ++ (codes "," ++ (portion ++ (codes ",\"components\":" ++ (components ++ codes "}")))))))

-- `,"free_CA_mode":<n>,"running_status":<n>`
abbrev pub status_json : Option (ℕ × ℕ) → List ℕ
status_json None = codes ",\"free_CA_mode\":null,\"running_status\":null"
status_json (Some status) = codes ",\"free_CA_mode\":" ++ (decimal status.0 ++ (codes ",\"running_status\":" ++ decimal status.1))

-- `,"ca":<array>`, and what the SDT says of the service's access and its state
abbrev pub service_marks : List ℕ → Option (ℕ × ℕ) → List ℕ
service_marks ids status = codes ",\"ca\":" ++ (array (map decimal ids) ++ status_json status)

-- the object of a service
abbrev pub service_json : ℕ → ℕ → Option (List ℕ) → Option ℕ → List ℕ → List ℕ → List ℕ → List ℕ
service_json id pmt body pcr portion marks components = service_head id body ++ (marks ++ service_tail pmt pcr portion components)

-- `{"id":<CA_system_id>,"emm":<pid>}`
abbrev pub ca_json : ℕ → ℕ → List ℕ
ca_json id pid = codes "{\"id\":" ++ (decimal id ++ (codes ",\"emm\":" ++ (decimal pid ++ codes "}")))

-- a language: as a text, if its bytes are one without control characters, else as digits after `0x`
abbrev pub language_json : List ℕ → List ℕ
language_json code = text_or_hex code (text_of code)

-- `{"pid":<pid>,"stream_type":<n>,"stream_type_name":<name>`
abbrev pub component_head : ℕ → ℕ → List ℕ
component_head pid kind = codes "{\"pid\":" ++ (decimal pid ++ (codes ",\"stream_type\":" ++ (decimal kind
    ++ (codes ",\"stream_type_name\":" ++ name_or_null (text_for stream_type_names kind)))))

-- `,"languages":<array>,"codecs":<array>,"audio_type":<n>,"ca":<array>,`
abbrev pub component_marks : List TaggedBody → List ℕ → List ℕ
component_marks ds ids = codes ",\"languages\":" ++ (array (map language_json (languages_of ds))
    ++ (codes ",\"codecs\":" ++ (array (map quoted (codecs_of ds))
    ++ (codes ",\"audio_type\":" ++ (number_or_null (audio_type_of ds) ++ (codes ",\"ca\":" ++ (array (map decimal ids) ++ codes ",")))))))

-- its share, its scrambled and faulty packets, and `,"services":<n>}`: how many services have it
abbrev pub component_tail : Scene → PidNumbers → ℕ → List ℕ
component_tail scene numbers users = portion_json scene numbers.packets
    ++ (troubles_json numbers ++ (codes ",\"services\":" ++ (decimal users ++ codes "}")))

-- the object of a component
abbrev pub component_json : Scene → ℕ → ℕ → List TaggedBody → List ℕ → PidNumbers → ℕ → List ℕ
component_json scene pid kind ds ids numbers users = component_head pid kind ++ (component_marks ds ids ++ component_tail scene numbers users)

-- `{"pid":<pid>,"use":"<use>",` its share, its scrambled and faulty packets
abbrev pub pid_json : ℕ → List ℕ → List ℕ → PidNumbers → List ℕ
pid_json pid purpose portion numbers = codes "{\"pid\":" ++ (decimal pid ++ (codes ",\"use\":\"" ++ (purpose ++ (codes "\"," ++ (portion
    ++ (troubles_json numbers ++ codes "}"))))))

-- `{"stream":<object>,"sdt_transport_stream_id":<id>,"ca":<array>,"services":<array>,"pids":<array>}`
abbrev pub whole_json : List ℕ → List ℕ → List ℕ → List ℕ → List ℕ → List ℕ
whole_json stream sdt cas services pids = codes "{\"stream\":" ++ (stream ++ (codes ",\"sdt_transport_stream_id\":" ++ (sdt
    ++ (codes ",\"ca\":" ++ (cas ++ (codes ",\"services\":" ++ (services ++ (codes ",\"pids\":" ++ (pids ++ codes "}")))))))))
