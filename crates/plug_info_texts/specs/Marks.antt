-- The codecs and the languages that descriptors of a component have. ISO/IEC 13818-1, 2.6.8 and 2.6.18: a
-- registration_descriptor, tag 0x05, begins with the four letters of a format_identifier, and each entry of an
-- ISO_639_language_descriptor with a language code. ETSI EN 300 468, 6.2.16, 6.2.41, 6.2.43 and 6.4: an
-- extension_descriptor, tag 0x7F, begins with the descriptor_tag_extension. That the first of equals counts is this
-- project's own rule.
use Rattle.std.specs.Prelude.{ℕ, ◌+◌, ◌%◌, ◌==◌, Bool, ◌&&◌, List, [], ◌∷◌, ◌++◌, length, take, drop, fold, nat_le, Option, None, Some, option_to_list, if◌then◌else◌}
use Rattle.std.specs.List.{flat_map, list_any}
use Rattle.std.specs.Option.{option_or}
use Rattle.std.specs.Str.{bytes_eq}
use Rattle.ts_bits.specs.TaggedBody.{TaggedBody}
use Rattle.ts_fields.specs.Reading.{are_printable}
use Rattle.plugin_notes.specs.PidPackets.{numbers_below}
use Rattle.plug_info_texts.specs.InfoNames.{codec_names, extension_names, text_for}
use Rattle.plug_info_texts.specs.PlainTexts.{has_no_mark}

-- the four letters that a format_identifier begins with, if they are printable ASCII without a quotation mark and a
-- backslash
abbrev pub registered : List ℕ → Option (List ℕ)
registered body =
    let letters = take 4 body in
    if nat_le 4 (length body) && (are_printable letters && has_no_mark letters) then Some letters else None

-- the codec by descriptor_tag_extension, the first byte of a body
abbrev pub extended : List ℕ → Option (List ℕ)
extended [] = None
extended (n ∷ bytes) = text_for extension_names n

-- the codec that a descriptor with this tag and this body identifies
abbrev pub codec_by : ℕ → List ℕ → Option (List ℕ)
codec_by tag body =
    if tag == 0x05 then registered body else (if tag == 0x7F then extended body else text_for codec_names tag)

-- the codec that a descriptor identifies, if it identifies one
abbrev pub codec_in : TaggedBody → List (List ℕ)
codec_in d = option_to_list (codec_by d.tag d.body)

-- the size of an entry with a language, in bytes: ISO_639_language_descriptor, teletext_descriptor and
-- subtitling_descriptor; 256, more than any body has, for other tags
abbrev pub language_step : ℕ → ℕ
language_step tag = if tag == 0x0A then 4 else (if tag == 0x56 then 5 else (if tag == 0x59 then 8 else 256))

-- a whole entry begins at this offset of a descriptor's body
abbrev pub is_entry : ℕ → ℕ → ℕ → Bool
is_entry step size place = (place % step == 0) && nat_le (place + step) size

-- the language at an offset of a descriptor's body, if an entry begins there: its first three bytes
abbrev pub language_at : ℕ → List ℕ → ℕ → List (List ℕ)
language_at step body place = if is_entry step (length body) place then take 3 (drop place body) ∷ [] else []

-- the languages of a descriptor's body
abbrev pub languages_by : ℕ → List ℕ → List (List ℕ)
languages_by step body = flat_map (language_at step body) (numbers_below (length body))

-- the languages of a descriptor
abbrev pub languages_in : TaggedBody → List (List ℕ)
languages_in d = languages_by (language_step d.tag) d.body

-- the first audio_type that is not 0 in the entries of an ISO_639_language_descriptor, of four bytes each
abbrev pub audio_type_in : List ℕ → Option ℕ
audio_type_in (a ∷ b ∷ c ∷ kind ∷ entries) = if kind == 0 then audio_type_in entries else Some kind
audio_type_in _ = None

-- the same of a descriptor with this tag and this body
abbrev pub audio_type_by : ℕ → List ℕ → Option ℕ
audio_type_by tag body = if tag == 0x0A then audio_type_in body else None

-- the audio_type of a component: the first that is not 0
abbrev pub audio_type_of : List TaggedBody → Option ℕ
audio_type_of ds = fold (λ found d. option_or found (audio_type_by d.tag d.body)) None ds

-- whether one of some texts is this one
abbrev pub has_text : List (List ℕ) → List ℕ → Bool
has_text texts text = list_any (λ held. bytes_eq held text) texts

-- texts with one more, unless it is among them
abbrev pub with_new : List (List ℕ) → List ℕ → List (List ℕ)
with_new texts text = if has_text texts text then texts else texts ++ text ∷ []

-- texts, of equal ones the first
abbrev pub distinct : List (List ℕ) → List (List ℕ)
distinct texts = fold with_new [] texts

-- the codecs of a component
abbrev pub codecs_of : List TaggedBody → List (List ℕ)
codecs_of ds = distinct (flat_map codec_in ds)

-- the languages of a component
abbrev pub languages_of : List TaggedBody → List (List ℕ)
languages_of ds = distinct (flat_map languages_in ds)
