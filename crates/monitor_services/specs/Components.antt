-- Which components of a service have sound or picture. ISO/IEC 13818-1, table 2-34 (stream_type), and ETSI EN 300 468, table 12
-- and annexes D and H (private data, stream_type 6, with a descriptor that says what it is: AC-3 and enhanced AC-3, DTS and AAC).
-- A component with an audio_type above 0 (ISO/IEC 13818-1, 2.6.19: clean effects, for the hearing impaired, commentary) may
-- pause. Which stream_types these are is this project's own rule.
use Rattle.std.specs.Prelude.{ℕ, List, [], ◌∷◌, filter, map, Bool, false, not, ◌==◌, ◌&&◌, ◌||◌, nat_eq, nat_lt, Option, None, Some}
use Rattle.std.specs.List.{flat_map, list_any}
use Rattle.ts_bits.specs.TaggedBody.{TaggedBody}
use Rattle.ts_fields.specs.Layout.{Held}
use Rattle.ts_descr.specs.Descriptors.{Typed, read_typed}
use Rattle.ts_descr_mpeg.specs.MpegDescrs.{mpeg_pages}
use Rattle.ts_table_rows.specs.TableValues.{ItemHolding, TableHolding}
use Rattle.plug_psi.specs.NumbersHeld.{component_pid, number_at}
use Rattle.monitor_tables.specs.TableIds.{is_one_of}

-- a stream_type of sound or picture: video and audio of ISO/IEC 11172, 13818, 14496 and 23008, and AC-3 of ATSC A/53
abbrev pub is_av_type : ℕ → Bool
is_av_type n = is_one_of (1 ∷ 2 ∷ 3 ∷ 4 ∷ 15 ∷ 16 ∷ 17 ∷ 27 ∷ 36 ∷ 51 ∷ 129 ∷ 135 ∷ []) n

-- the tag of a descriptor that says that private data are sound: AC-3, enhanced AC-3, DTS, AAC
abbrev pub is_sound_tag : ℕ → Bool
is_sound_tag n = is_one_of (106 ∷ 122 ∷ 123 ∷ 124 ∷ []) n

abbrev pub has_sound_tag : List TaggedBody → Bool
has_sound_tag descriptors = list_any (λ d. is_sound_tag d.tag) descriptors

-- an item of an ISO_639_language_descriptor, tag 10, has an audio_type above 0, which comes after the code
abbrev pub is_special : List Held → Bool
is_special item = nat_lt 0 (number_at item 1)

abbrev pub has_special : Option Typed → Bool
has_special None = false
has_special (Some typed) = nat_eq typed.tag 10 && list_any is_special typed.holding.items

-- one of the descriptors of a component is such a descriptor
abbrev pub may_pause : List TaggedBody → Bool
may_pause descriptors = list_any (λ d. has_special (read_typed mpeg_pages d)) descriptors

-- the component has sound or picture
abbrev pub is_sounding : ItemHolding → Bool
is_sounding component =
    (is_av_type (number_at component.values 0) || (number_at component.values 0 == 6 && has_sound_tag component.descriptors))
    && not (may_pause component.descriptors)

-- the PID of a component, where it has
abbrev pub sounding_pid : ItemHolding → List ℕ
sounding_pid component = map component_pid (filter is_sounding (component ∷ []))

-- the PIDs of those components of a PMT that have
abbrev pub sounding_pids : TableHolding → List ℕ
sounding_pids pmt = flat_map sounding_pid pmt.body.items
