-- The texts of `info`. This project's own rule.
use Rattle.std.specs.Prelude.{ℕ, ◌+◌, ◌*◌, ◌/◌, ◌%◌, ◌==◌, List, [], ◌∷◌, ◌++◌, nat_lt, Option, None, Some, codes, if◌then◌else◌}
use Rattle.std.specs.List.{flat_map}
use Rattle.std.specs.Fmt.{decimal}
use Rattle.hex.specs.Hex.{encode_lower}
use Rattle.ts_bits.specs.TaggedBody.{TaggedBody}
use Rattle.ts_charsets.specs.ShownTexts.{shown_text}
use Rattle.ts_fields.specs.Texts.{text_of}
use Rattle.ts_packet.specs.declared.numbers.TheConstants.{PACKET_SIZE}
use Rattle.plug_info_texts.specs.InfoNames.{service_type_names, stream_type_names, text_for}
use Rattle.plug_info_texts.specs.Marks.{audio_type_of, codecs_of, languages_of}
use Rattle.plug_info_texts.specs.PlainTexts.{is_plain}
use Rattle.plug_info_texts.specs.Rounding.{rounded}
use Rattle.named_services.specs.ServiceNames.{name_in, provider_in, type_in}
use Rattle.plug_info_texts.specs.declared.pid_numbers.PidNumbers.{PidNumbers}
use Rattle.plug_info_texts.specs.declared.scene.Scene.{Scene}
use Rattle.plug_info_texts.specs.declared.stream_numbers.StreamNumbers.{StreamNumbers}

-- bytes as hexadecimal digits after `0x`
abbrev pub hex_text : List ℕ → List ℕ
hex_text bytes = codes "0x" ++ encode_lower bytes

-- a text in quotation marks, if it can be there as it is, else the bytes that it was read from, as digits
abbrev pub quoted_or_hex : List ℕ → Option (List ℕ) → List ℕ
quoted_or_hex bytes None = hex_text bytes
quoted_or_hex bytes (Some text) = if is_plain text then codes "\"" ++ (text ++ codes "\"") else hex_text bytes

-- bytes as they are shown
abbrev pub shown : List ℕ → List ℕ
shown bytes = quoted_or_hex bytes (text_of bytes)

-- the bytes of a name as they are shown: in the character table that they select, without emphasis, and with a space for a
-- line break
abbrev pub shown_name : List ℕ → List ℕ
shown_name bytes = quoted_or_hex bytes (shown_text bytes)

-- the bytes of a name as they are shown, or `none`
abbrev pub shown_or_none : Option (List ℕ) → List ℕ
shown_or_none None = codes "none"
shown_or_none (Some bytes) = shown_name bytes

-- a number, or `none`
abbrev pub number_or_none : Option ℕ → List ℕ
number_or_none None = codes "none"
number_or_none (Some n) = decimal n

-- a share in hundredths of a percent, rounded to the nearest; 0 of nothing
abbrev pub hundredths : ℕ → ℕ → ℕ
hundredths part whole = if whole == 0 then 0 else rounded (part * 10000) whole

-- hundredths of a percent as percent with two decimals
abbrev pub percent : ℕ → List ℕ
percent h = decimal (h / 100) ++ (codes "." ++ (decimal (h / 10 % 10) ++ (decimal (h % 10) ++ codes "%")))

-- The bit rate of some packets among these positions: their bits over the time that the positions take, of which so
-- many bits pass in a second. Rounded to the nearest, in bits per second; there is none of no positions, or where it is
-- not known how many bits pass.
abbrev pub rate_part : Option ℕ → ℕ → ℕ → Option ℕ
rate_part None part whole = None
rate_part (Some rate) part whole = if whole == 0 then None else Some (rounded (rate * part) whole)

-- the bit rate of some packets among these positions, or `none`
abbrev pub rate_text : Option ℕ → ℕ → ℕ → List ℕ
rate_text rate part whole = number_or_none (rate_part rate part whole)

-- ` packets <n> share <percent> bitrate <bits per second>`
abbrev pub portion_text : Scene → ℕ → List ℕ
portion_text scene packets = codes " packets " ++ (decimal packets ++ (codes " share " ++ (percent (hundredths packets scene.whole)
    ++ (codes " bitrate " ++ rate_text scene.rate packets scene.extent))))

-- the first half of the line of the stream: `stream packets <n> bytes <n> transport_stream_id <id> bitrate <n>`
abbrev pub stream_head : StreamNumbers → List ℕ
stream_head s = codes "stream packets " ++ (decimal s.packets ++ (codes " bytes " ++ (decimal (s.packets * PACKET_SIZE)
    ++ (codes " transport_stream_id " ++ (number_or_none s.stream_id ++ (codes " bitrate " ++ rate_text s.rate s.packets s.extent))))))

-- its second half: ` breaks <n> nulls <n> share <percent> errored <n> scrambled <n> faults <n>`
abbrev pub stream_tail : StreamNumbers → List ℕ
stream_tail s = codes " breaks " ++ (number_or_none s.breaks ++ (codes " nulls " ++ (decimal s.nulls
    ++ (codes " share " ++ (percent (hundredths s.nulls s.packets) ++ (codes " errored " ++ (decimal s.errored
    ++ (codes " scrambled " ++ (decimal s.scrambled ++ (codes " faults " ++ decimal s.faults))))))))))

-- the line of the stream
abbrev pub stream_text : StreamNumbers → List ℕ
stream_text s = stream_head s ++ stream_tail s

-- `sdt of transport_stream_id <id>`, if it is another one than the PAT's
abbrev pub sdt_texts : Option ℕ → Option ℕ → List (List ℕ)
sdt_texts None sdt = []
sdt_texts (Some pat) None = []
sdt_texts (Some pat) (Some sdt) = if pat == sdt then [] else (codes "sdt of transport_stream_id " ++ decimal sdt) ∷ []

-- a name, or `unknown`
abbrev pub name_or_unknown : Option (List ℕ) → List ℕ
name_or_unknown None = codes "unknown"
name_or_unknown (Some name) = name

-- a service_type with its name: `<n> (<name>)`, or `none`
abbrev pub type_text : Option ℕ → List ℕ
type_text None = codes "none"
type_text (Some kind) = decimal kind ++ (codes " (" ++ (name_or_unknown (text_for service_type_names kind) ++ codes ")"))

-- `service <id> type <n> (<name>) name <text> provider <text>`, from the body of its service_descriptor
abbrev pub service_head : ℕ → Option (List ℕ) → List ℕ
service_head id body = codes "service " ++ (decimal id ++ (codes " type " ++ (type_text (type_in body)
    ++ (codes " name " ++ (shown_or_none (name_in body) ++ (codes " provider " ++ shown_or_none (provider_in body)))))))

-- ` pmt <pid> pcr <pid>` and its share
abbrev pub service_tail : ℕ → Option ℕ → List ℕ → List ℕ
service_tail pmt pcr portion = codes " pmt " ++ (decimal pmt ++ (codes " pcr " ++ (number_or_none pcr ++ portion)))

-- ` ca <id>`
abbrev pub ca_text : ℕ → List ℕ
ca_text id = codes " ca " ++ decimal id

-- ` free_CA_mode <0|1> running_status <n>`, if the SDT has the service
abbrev pub status_text : Option (ℕ × ℕ) → List ℕ
status_text None = []
status_text (Some status) = codes " free_CA_mode " ++ (decimal status.0 ++ (codes " running_status " ++ decimal status.1))

-- the CA_system_ids of a service, and what the SDT says of its access and its state
abbrev pub service_marks : List ℕ → Option (ℕ × ℕ) → List ℕ
service_marks ids status = flat_map ca_text ids ++ status_text status

-- the line of a service
abbrev pub service_text : ℕ → ℕ → Option (List ℕ) → Option ℕ → List ℕ → List ℕ → List ℕ
service_text id pmt body pcr portion marks = service_head id body ++ (service_tail pmt pcr portion ++ marks)

-- `ca <CA_system_id> emm <pid>`
abbrev pub ca_line : ℕ → ℕ → List ℕ
ca_line id pid = codes "ca " ++ (decimal id ++ (codes " emm " ++ decimal pid))

-- ` codec <name>`
abbrev pub codec_text : List ℕ → List ℕ
codec_text name = codes " codec " ++ name

-- ` language <code>`
abbrev pub language_text : List ℕ → List ℕ
language_text code = codes " language " ++ shown code

-- ` audio_type <n>`, if there is one
abbrev pub audio_text : Option ℕ → List ℕ
audio_text None = []
audio_text (Some kind) = codes " audio_type " ++ decimal kind

-- the codecs of a list of descriptors, the languages, the audio_type, and the CA_system_ids
abbrev pub marks_text : List TaggedBody → List ℕ → List ℕ
marks_text ds ids = flat_map codec_text (codecs_of ds)
    ++ (flat_map language_text (languages_of ds) ++ (audio_text (audio_type_of ds) ++ flat_map ca_text ids))

-- ` scrambled <n> faults <n>`
abbrev pub troubles_text : PidNumbers → List ℕ
troubles_text numbers = codes " scrambled " ++ (decimal numbers.scrambled ++ (codes " faults " ++ decimal numbers.faults))

-- ` shared <services>`, if more than one service has it
abbrev pub shared_text : ℕ → List ℕ
shared_text users = if nat_lt 1 users then codes " shared " ++ decimal users else []

-- `component <pid> service <id> stream_type <n> (<name>)`
abbrev pub component_head : ℕ → ℕ → ℕ → List ℕ
component_head pid service kind = codes "component " ++ (decimal pid ++ (codes " service " ++ (decimal service
    ++ (codes " stream_type " ++ (decimal kind ++ (codes " (" ++ (name_or_unknown (text_for stream_type_names kind) ++ codes ")")))))))

-- its share, its scrambled and faulty packets, and how many services share it
abbrev pub component_tail : Scene → PidNumbers → ℕ → List ℕ
component_tail scene numbers users = portion_text scene numbers.packets ++ (troubles_text numbers ++ shared_text users)

-- the whole line, with its languages and codecs between both
abbrev pub component_text : Scene → ℕ → ℕ → ℕ → List ℕ → PidNumbers → ℕ → List ℕ
component_text scene pid service kind marks numbers users = component_head pid service kind
    ++ (marks ++ component_tail scene numbers users)

-- `pid <pid> (<use>)`, its share, its scrambled and faulty packets
abbrev pub pid_text : ℕ → List ℕ → List ℕ → PidNumbers → List ℕ
pid_text pid purpose portion numbers = codes "pid " ++ (decimal pid ++ (codes " ("
    ++ (purpose ++ (codes ")" ++ (portion ++ troubles_text numbers)))))
