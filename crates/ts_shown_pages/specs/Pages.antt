-- The pages of all descriptors that JSON shows by their fields. Written by tools/pages from pages.txt.
-- ISO/IEC 13818-1, 2.6, and ETSI EN 300 468, 6.2. All other tags have no page; extension descriptors have theirs by another
-- list. The list is in four parts, since no proof goes through one of all.
use Rattle.std.specs.Prelude.{ℕ, List, [], ◌∷◌, nat_eq, bytes_eq, Option, option_map}
use Rattle.std.specs.List.{find}
use Rattle.ts_fields.specs.Bodies.{Page}
use Rattle.ts_groups.specs.Groups.{Group}
use Rattle.ts_item_forms.specs.ItemForms.{Form}
use Rattle.ts_pages.specs.DeliveryPages.{satellite}
use Rattle.ts_pages.specs.DvbPages.{network_name, service_list, bouquet_name, service, short_event, component, stream_identifier, ca_identifier, content, parental_rating, teletext, subtitling, private_data_specifier}
use Rattle.ts_pages.specs.MpegPages.{registration, data_stream_alignment, language}
use Rattle.ts_shown_pages.specs.ShownPages.{video_stream, video_stream_groups, audio_stream, ca, system_clock, multiplex_buffer_utilization, maximum_bitrate, private_data_indicator, smoothing_buffer, std, mpeg4_video, mpeg4_audio, avc_video, mpeg2_aac_audio, hevc_video, hevc_video_groups, stuffing, cable_delivery_system, vbi_data, vbi_teletext, country_availability, linkage, nvod_reference, time_shifted_service, extended_event, time_shifted_event, local_time_offset, terrestrial_delivery_system, multilingual_network_name, multilingual_bouquet_name, multilingual_service_name, multilingual_component, service_move, short_smoothing_buffer, frequency_list, partial_transport_stream, data_broadcast, scrambling, data_broadcast_id, pdc, ac3, ac3_groups, ancillary_data, announcement_support, announcement_support_form, application_signalling, service_identifier, service_availability, default_authority, content_identifier, content_identifier_form, s2_satellite_delivery_system, s2_satellite_delivery_system_groups, enhanced_ac3, enhanced_ac3_groups, dts, aac, fta_content_management, logical_channel, logical_channel_v2, logical_channel_v2_form, hd_simulcast_logical_channel}

-- the last quarter of them
unfoldable pub last_quarter : List Page
last_quarter =
    pdc
    ∷ ac3
    ∷ ancillary_data
    ∷ announcement_support
    ∷ application_signalling
    ∷ service_identifier
    ∷ service_availability
    ∷ default_authority
    ∷ content_identifier
    ∷ s2_satellite_delivery_system
    ∷ enhanced_ac3
    ∷ dts
    ∷ aac
    ∷ fta_content_management
    ∷ logical_channel
    ∷ logical_channel_v2
    ∷ hd_simulcast_logical_channel
    ∷ []

-- the third quarter of them, and those after it
unfoldable pub third_quarter : List Page
third_quarter =
    content
    ∷ parental_rating
    ∷ teletext
    ∷ local_time_offset
    ∷ subtitling
    ∷ terrestrial_delivery_system
    ∷ multilingual_network_name
    ∷ multilingual_bouquet_name
    ∷ multilingual_service_name
    ∷ multilingual_component
    ∷ private_data_specifier
    ∷ service_move
    ∷ short_smoothing_buffer
    ∷ frequency_list
    ∷ partial_transport_stream
    ∷ data_broadcast
    ∷ scrambling
    ∷ data_broadcast_id
    ∷ last_quarter

-- the second quarter of them, and those after it
unfoldable pub second_quarter : List Page
second_quarter =
    service_list
    ∷ stuffing
    ∷ satellite
    ∷ cable_delivery_system
    ∷ vbi_data
    ∷ vbi_teletext
    ∷ bouquet_name
    ∷ service
    ∷ country_availability
    ∷ linkage
    ∷ nvod_reference
    ∷ time_shifted_service
    ∷ short_event
    ∷ extended_event
    ∷ time_shifted_event
    ∷ component
    ∷ stream_identifier
    ∷ ca_identifier
    ∷ third_quarter

-- the pages, in the order of their tags
abbrev pub pages : List Page
pages =
    video_stream
    ∷ audio_stream
    ∷ registration
    ∷ data_stream_alignment
    ∷ ca
    ∷ language
    ∷ system_clock
    ∷ multiplex_buffer_utilization
    ∷ maximum_bitrate
    ∷ private_data_indicator
    ∷ smoothing_buffer
    ∷ std
    ∷ mpeg4_video
    ∷ mpeg4_audio
    ∷ avc_video
    ∷ mpeg2_aac_audio
    ∷ hevc_video
    ∷ network_name
    ∷ second_quarter

-- the page of a tag; none where it has none
abbrev pub page_of : ℕ → Option Page
page_of tag = find (λ p. nat_eq tag p.tag) pages

-- the page of a name; none where it has none
abbrev pub page_named : List ℕ → Option Page
page_named name = find (λ p. bytes_eq name p.name) pages

-- the pages whose first fields say which others are there: each tag with the groups of further fields
abbrev pub grouped : List (ℕ × List Group)
grouped =
    (0x02, video_stream_groups)
    ∷ (0x38, hevc_video_groups)
    ∷ (0x6A, ac3_groups)
    ∷ (0x79, s2_satellite_delivery_system_groups)
    ∷ (0x7A, enhanced_ac3_groups)
    ∷ []

-- the groups of further fields of the page of a tag; none where its fields are always the same
abbrev pub groups_of : ℕ → Option (List Group)
groups_of tag = option_map (λ g. g.1) (find (λ g. nat_eq tag g.0) grouped)

-- the pages whose items have groups, or items in them: each tag with the form of the items
abbrev pub formed : List (ℕ × Form)
formed =
    (0x6E, announcement_support_form)
    ∷ (0x76, content_identifier_form)
    ∷ (0x87, logical_channel_v2_form)
    ∷ []

-- the form of the items of the page of a tag; none where it has no such items
abbrev pub form_of : ℕ → Option Form
form_of tag = option_map (λ f. f.1) (find (λ f. nat_eq tag f.0) formed)
