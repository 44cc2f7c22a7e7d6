-- The pages of descriptors that have no struct, or that JSON shows with reserved bits. Written by tools/pages from pages.txt.
-- ISO/IEC 13818-1, 2.6, ETSI EN 300 468, 6.2 and its annexes, and the documents that are named.
use Rattle.std.specs.Prelude.{List, [], ◌∷◌, codes, Some, None}
use Rattle.ts_fields.specs.declared.field.Kind.TheVariants.{Number, Decimal, Flag, Start, Language, CountedText, CountedHex, Text, Hex, Reserved, Zeros}
use Rattle.ts_fields.specs.Bodies.{Page}
use Rattle.ts_groups.specs.Groups.{Group, always, by_value, false_if_absent}
use Rattle.ts_item_forms.specs.ItemForms.{Form}
use Rattle.ts_pages.specs.PageRows.{around_items, field, of_fields, of_items, reserved, with_items}

-- ISO/IEC 13818-1, 2.6.2: how a video component is coded
abbrev pub video_stream : Page
video_stream = of_fields 0x02 (codes "video_stream_descriptor") (
    field (codes "multiple_frame_rate") Flag
    ∷ field (codes "frame_rate_code") (Number 4)
    ∷ false_if_absent (codes "MPEG_1_only")
    ∷ field (codes "constrained_parameter") Flag
    ∷ field (codes "still_picture") Flag
    ∷ [])

-- the fields of the video_stream_descriptor by what its first fields say
abbrev pub video_stream_groups : List Group
video_stream_groups =
    by_value 2 (0 ∷ []) (
    field (codes "profile_and_level_indication") (Number 8)
    ∷ field (codes "chroma_format") (Number 2)
    ∷ field (codes "frame_rate_extension") Flag
    ∷ field (codes "reserved") (Reserved 5)
    ∷ [])
    ∷ []

-- ISO/IEC 13818-1, 2.6.4: how an audio component is coded
abbrev pub audio_stream : Page
audio_stream = of_fields 0x03 (codes "audio_stream_descriptor") (
    field (codes "free_format") Flag
    ∷ field (codes "ID") (Number 1)
    ∷ field (codes "layer") (Number 2)
    ∷ field (codes "variable_rate_audio") Flag
    ∷ field (codes "reserved") (Reserved 3)
    ∷ [])

-- ISO/IEC 13818-1, 2.6.16: the PID of the ECMs or the EMMs of a conditional access system
abbrev pub ca : Page
ca = of_fields 0x09 (codes "CA_descriptor") (
    field (codes "CA_system_id") (Number 16)
    ∷ field (codes "reserved") (Reserved 3)
    ∷ field (codes "CA_PID") (Number 13)
    ∷ field (codes "private_data") Hex
    ∷ [])

-- ISO/IEC 13818-1, 2.6.20: how accurate the clock of a program is
abbrev pub system_clock : Page
system_clock = of_fields 0x0B (codes "system_clock_descriptor") (
    field (codes "external_clock_reference") Flag
    ∷ field (codes "reserved") (Reserved 1)
    ∷ field (codes "clock_accuracy_integer") (Number 6)
    ∷ field (codes "clock_accuracy_exponent") (Number 3)
    ∷ field (codes "reserved_2") (Reserved 5)
    ∷ [])

-- ISO/IEC 13818-1, 2.6.22: how full the multiplex buffer of a decoder is
abbrev pub multiplex_buffer_utilization : Page
multiplex_buffer_utilization = of_fields 0x0C (codes "multiplex_buffer_utilization_descriptor") (
    field (codes "bound_valid_flag") Flag
    ∷ field (codes "LTW_offset_lower_bound") (Number 15)
    ∷ field (codes "reserved") (Reserved 1)
    ∷ field (codes "LTW_offset_upper_bound") (Number 15)
    ∷ [])

-- ISO/IEC 13818-1, 2.6.26: the maximum bit rate of a component, in units of 50 bytes per second
abbrev pub maximum_bitrate : Page
maximum_bitrate = of_fields 0x0E (codes "maximum_bitrate_descriptor") (
    field (codes "reserved") (Reserved 2)
    ∷ field (codes "maximum_bitrate") (Number 22)
    ∷ [])

-- ISO/IEC 13818-1, 2.6.28: a number of whoever defines private data
abbrev pub private_data_indicator : Page
private_data_indicator = of_fields 0x0F (codes "private_data_indicator_descriptor") (
    field (codes "private_data_indicator") (Number 32)
    ∷ [])

-- ISO/IEC 13818-1, 2.6.30: the size and the leak rate of a smoothing buffer
abbrev pub smoothing_buffer : Page
smoothing_buffer = of_fields 0x10 (codes "smoothing_buffer_descriptor") (
    field (codes "reserved") (Reserved 2)
    ∷ field (codes "sb_leak_rate") (Number 22)
    ∷ field (codes "reserved_2") (Reserved 2)
    ∷ field (codes "sb_size") (Number 22)
    ∷ [])

-- ISO/IEC 13818-1, 2.6.32: whether a decoder empties its multiplex buffer by the leak method
abbrev pub std : Page
std = of_fields 0x11 (codes "STD_descriptor") (
    field (codes "reserved") (Reserved 7)
    ∷ field (codes "leak_valid") Flag
    ∷ [])

-- ISO/IEC 13818-1, 2.6.36: the profile and level of an MPEG-4 video component
abbrev pub mpeg4_video : Page
mpeg4_video = of_fields 0x1B (codes "MPEG4_video_descriptor") (
    field (codes "MPEG4_visual_profile_and_level") (Number 8)
    ∷ [])

-- ISO/IEC 13818-1, 2.6.38: the profile and level of an MPEG-4 audio component
abbrev pub mpeg4_audio : Page
mpeg4_audio = of_fields 0x1C (codes "MPEG4_audio_descriptor") (
    field (codes "MPEG4_audio_profile_and_level") (Number 8)
    ∷ [])

-- ISO/IEC 13818-1, 2.6.64: the profile and level of an H.264 video component
abbrev pub avc_video : Page
avc_video = of_fields 0x28 (codes "AVC_video_descriptor") (
    field (codes "profile_idc") (Number 8)
    ∷ field (codes "constraint_set0") Flag
    ∷ field (codes "constraint_set1") Flag
    ∷ field (codes "constraint_set2") Flag
    ∷ field (codes "constraint_set3") Flag
    ∷ field (codes "constraint_set4") Flag
    ∷ field (codes "constraint_set5") Flag
    ∷ field (codes "AVC_compatible_flags") (Number 2)
    ∷ field (codes "level_idc") (Number 8)
    ∷ field (codes "AVC_still_present") Flag
    ∷ field (codes "AVC_24_hour_picture") Flag
    ∷ field (codes "Frame_Packing_SEI_not_present") Flag
    ∷ field (codes "reserved") (Reserved 5)
    ∷ [])

-- ISO/IEC 13818-1, 2.6.68: the profile and the channels of an MPEG-2 AAC audio component
abbrev pub mpeg2_aac_audio : Page
mpeg2_aac_audio = of_fields 0x2B (codes "MPEG2_AAC_audio_descriptor") (
    field (codes "MPEG2_AAC_profile") (Number 8)
    ∷ field (codes "MPEG2_AAC_channel_configuration") (Number 8)
    ∷ field (codes "MPEG2_AAC_additional_information") (Number 8)
    ∷ [])

-- ISO/IEC 13818-1, 2.6.95: the profile and level of an H.265 video component
abbrev pub hevc_video : Page
hevc_video = of_fields 0x38 (codes "HEVC_video_descriptor") (
    field (codes "profile_space") (Number 2)
    ∷ field (codes "tier") Flag
    ∷ field (codes "profile_idc") (Number 5)
    ∷ field (codes "profile_compatibility_indication") (Number 32)
    ∷ field (codes "progressive_source") Flag
    ∷ field (codes "interlaced_source") Flag
    ∷ field (codes "non_packed_constraint") Flag
    ∷ field (codes "frame_only_constraint") Flag
    ∷ field (codes "copied_44bits") (Number 44)
    ∷ field (codes "level_idc") (Number 8)
    ∷ false_if_absent (codes "temporal_layer_subset_flag")
    ∷ field (codes "HEVC_still_present") Flag
    ∷ field (codes "HEVC_24hr_picture_present") Flag
    ∷ field (codes "sub_pic_hrd_params_not_present") Flag
    ∷ field (codes "reserved") (Reserved 2)
    ∷ field (codes "HDR_WCG_idc") (Number 2)
    ∷ [])

-- the fields of the HEVC_video_descriptor by what its first fields say
abbrev pub hevc_video_groups : List Group
hevc_video_groups =
    by_value 10 (1 ∷ []) (
    field (codes "temporal_id_min") (Number 3)
    ∷ field (codes "reserved_2") (Reserved 5)
    ∷ field (codes "temporal_id_max") (Number 3)
    ∷ field (codes "reserved_3") (Reserved 5)
    ∷ [])
    ∷ []

-- ETSI EN 300 468, 6.2.40: bytes that mean nothing
abbrev pub stuffing : Page
stuffing = of_fields 0x42 (codes "stuffing_descriptor") (
    field (codes "stuffing") Hex
    ∷ [])

-- ETSI EN 300 468, 6.2.13.1: how a cable carries a transport stream
abbrev pub cable_delivery_system : Page
cable_delivery_system = of_fields 0x44 (codes "cable_delivery_system_descriptor") (
    field (codes "frequency") (Decimal 8)
    ∷ field (codes "reserved") (Reserved 12)
    ∷ field (codes "FEC_outer") (Number 4)
    ∷ field (codes "modulation") (Number 8)
    ∷ field (codes "symbol_rate") (Decimal 7)
    ∷ field (codes "FEC_inner") (Number 4)
    ∷ [])

-- ETSI EN 300 468, 6.2.47: what the vertical blanking interval has, in lines of each field
abbrev pub vbi_data : Page
vbi_data = of_items 0x45 (codes "VBI_data_descriptor") (codes "service") (
    field (codes "data_service_id") (Number 8)
    ∷ field (codes "lines") CountedHex
    ∷ [])

-- ETSI EN 300 468, 6.2.48: the Teletext pages of a component for the vertical blanking interval
abbrev pub vbi_teletext : Page
vbi_teletext = of_items 0x46 (codes "VBI_teletext_descriptor") (codes "teletext") (
    field (codes "language_code") Language
    ∷ field (codes "teletext_type") (Number 5)
    ∷ field (codes "teletext_magazine_number") (Number 3)
    ∷ field (codes "teletext_page_number") (Number 8)
    ∷ [])

-- ETSI EN 300 468, 6.2.10: the countries that a service is meant for, or is not
abbrev pub country_availability : Page
country_availability = with_items 0x49 (codes "country_availability_descriptor") (
    field (codes "country_availability") Flag
    ∷ field (codes "reserved") (Reserved 7)
    ∷ []) (codes "country") (
    field (codes "country_code") Language
    ∷ [])

-- ETSI EN 300 468, 6.2.19: another service, and what it has to do with this one
abbrev pub linkage : Page
linkage = of_fields 0x4A (codes "linkage_descriptor") (
    field (codes "transport_stream_id") (Number 16)
    ∷ field (codes "original_network_id") (Number 16)
    ∷ field (codes "service_id") (Number 16)
    ∷ field (codes "linkage_type") (Number 8)
    ∷ field (codes "private_data") Hex
    ∷ [])

-- ETSI EN 300 468, 6.2.26: the services that show the same events later
abbrev pub nvod_reference : Page
nvod_reference = of_items 0x4B (codes "NVOD_reference_descriptor") (codes "service") (
    field (codes "transport_stream_id") (Number 16)
    ∷ field (codes "original_network_id") (Number 16)
    ∷ field (codes "service_id") (Number 16)
    ∷ [])

-- ETSI EN 300 468, 6.2.45: the service of whose events this one shows later copies
abbrev pub time_shifted_service : Page
time_shifted_service = of_fields 0x4C (codes "time_shifted_service_descriptor") (
    field (codes "reference_service_id") (Number 16)
    ∷ [])

-- ETSI EN 300 468, 6.2.15: a part of the long text on an event, with named items
abbrev pub extended_event : Page
extended_event = around_items 0x4E (codes "extended_event_descriptor") (
    field (codes "descriptor_number") (Number 4)
    ∷ field (codes "last_descriptor_number") (Number 4)
    ∷ field (codes "language_code") Language
    ∷ []) (codes "item") (
    field (codes "item_description") CountedText
    ∷ field (codes "item") CountedText
    ∷ []) (
    field (codes "text") CountedText
    ∷ [])

-- ETSI EN 300 468, 6.2.44: the event of which this one is a later copy
abbrev pub time_shifted_event : Page
time_shifted_event = of_fields 0x4F (codes "time_shifted_event_descriptor") (
    field (codes "reference_service_id") (Number 16)
    ∷ field (codes "reference_event_id") (Number 16)
    ∷ [])

-- ETSI EN 300 468, 6.2.20: the local time of regions, and when it changes next
abbrev pub local_time_offset : Page
local_time_offset = of_items 0x58 (codes "local_time_offset_descriptor") (codes "region") (
    field (codes "country_code") Language
    ∷ field (codes "country_region_id") (Number 6)
    ∷ field (codes "reserved") (Reserved 1)
    ∷ field (codes "local_time_offset_polarity") (Number 1)
    ∷ field (codes "local_time_offset") (Decimal 4)
    ∷ field (codes "time_of_change") Start
    ∷ field (codes "next_time_offset") (Decimal 4)
    ∷ [])

-- ETSI EN 300 468, 6.2.13.4: how a terrestrial transmitter carries a transport stream
abbrev pub terrestrial_delivery_system : Page
terrestrial_delivery_system = of_fields 0x5A (codes "terrestrial_delivery_system_descriptor") (
    field (codes "centre_frequency") (Number 32)
    ∷ field (codes "bandwidth") (Number 3)
    ∷ field (codes "priority") (Number 1)
    ∷ field (codes "time_slicing") (Number 1)
    ∷ field (codes "MPE_FEC") (Number 1)
    ∷ field (codes "reserved") (Reserved 2)
    ∷ field (codes "constellation") (Number 2)
    ∷ field (codes "hierarchy") (Number 3)
    ∷ field (codes "code_rate_HP") (Number 3)
    ∷ field (codes "code_rate_LP") (Number 3)
    ∷ field (codes "guard_interval") (Number 2)
    ∷ field (codes "transmission_mode") (Number 2)
    ∷ field (codes "other_frequency") (Number 1)
    ∷ field (codes "reserved_2") (Reserved 32)
    ∷ [])

-- ETSI EN 300 468, 6.2.24: the name of a network in several languages
abbrev pub multilingual_network_name : Page
multilingual_network_name = of_items 0x5B (codes "multilingual_network_name_descriptor") (codes "language") (
    field (codes "code") Language
    ∷ field (codes "network_name") CountedText
    ∷ [])

-- ETSI EN 300 468, 6.2.22: the name of a bouquet in several languages
abbrev pub multilingual_bouquet_name : Page
multilingual_bouquet_name = of_items 0x5C (codes "multilingual_bouquet_name_descriptor") (codes "language") (
    field (codes "code") Language
    ∷ field (codes "bouquet_name") CountedText
    ∷ [])

-- ETSI EN 300 468, 6.2.25: the names of a service and its provider in several languages
abbrev pub multilingual_service_name : Page
multilingual_service_name = of_items 0x5D (codes "multilingual_service_name_descriptor") (codes "language") (
    field (codes "code") Language
    ∷ field (codes "service_provider_name") CountedText
    ∷ field (codes "service_name") CountedText
    ∷ [])

-- ETSI EN 300 468, 6.2.23: what a component is, in several languages
abbrev pub multilingual_component : Page
multilingual_component = with_items 0x5E (codes "multilingual_component_descriptor") (
    field (codes "component_tag") (Number 8)
    ∷ []) (codes "language") (
    field (codes "code") Language
    ∷ field (codes "description") CountedText
    ∷ [])

-- ETSI EN 300 468, 6.2.36: where a service has moved to
abbrev pub service_move : Page
service_move = of_fields 0x60 (codes "service_move_descriptor") (
    field (codes "new_original_network_id") (Number 16)
    ∷ field (codes "new_transport_stream_id") (Number 16)
    ∷ field (codes "new_service_id") (Number 16)
    ∷ [])

-- ETSI EN 300 468, 6.2.38: the size and the leak rate of the smoothing buffer of an event
abbrev pub short_smoothing_buffer : Page
short_smoothing_buffer = of_fields 0x61 (codes "short_smoothing_buffer_descriptor") (
    field (codes "sb_size") (Number 2)
    ∷ field (codes "sb_leak_rate") (Number 6)
    ∷ field (codes "DVB_reserved") Hex
    ∷ [])

-- ETSI EN 300 468, 6.2.17: further frequencies on which a transport stream is sent
abbrev pub frequency_list : Page
frequency_list = with_items 0x62 (codes "frequency_list_descriptor") (
    field (codes "reserved") (Reserved 6)
    ∷ field (codes "coding_type") (Number 2)
    ∷ []) (codes "frequency") (
    field (codes "centre_frequency") (Number 32)
    ∷ [])

-- ETSI EN 300 468, 7.2.1: the bit rates of a stream that was taken out of another
abbrev pub partial_transport_stream : Page
partial_transport_stream = of_fields 0x63 (codes "partial_transport_stream_descriptor") (
    field (codes "reserved") (Reserved 2)
    ∷ field (codes "peak_rate") (Number 22)
    ∷ field (codes "reserved_2") (Reserved 2)
    ∷ field (codes "minimum_overall_smoothing_rate") (Number 22)
    ∷ field (codes "reserved_3") (Reserved 2)
    ∷ field (codes "maximum_overall_smoothing_buffer") (Number 14)
    ∷ [])

-- ETSI EN 300 468, 6.2.11: what a data broadcast is, and where
abbrev pub data_broadcast : Page
data_broadcast = of_fields 0x64 (codes "data_broadcast_descriptor") (
    field (codes "data_broadcast_id") (Number 16)
    ∷ field (codes "component_tag") (Number 8)
    ∷ field (codes "selector") CountedHex
    ∷ field (codes "language_code") Language
    ∷ field (codes "text") CountedText
    ∷ [])

-- ETSI EN 300 468, 6.2.32: how a service is scrambled
abbrev pub scrambling : Page
scrambling = of_fields 0x65 (codes "scrambling_descriptor") (
    field (codes "scrambling_mode") (Number 8)
    ∷ [])

-- ETSI EN 300 468, 6.2.12: what the data of a component are
abbrev pub data_broadcast_id : Page
data_broadcast_id = of_fields 0x66 (codes "data_broadcast_id_descriptor") (
    field (codes "data_broadcast_id") (Number 16)
    ∷ field (codes "id_selector") Hex
    ∷ [])

-- ETSI EN 300 468, 6.2.30: the label by which a recorder knows an event
abbrev pub pdc : Page
pdc = of_fields 0x69 (codes "PDC_descriptor") (
    field (codes "reserved") (Reserved 4)
    ∷ field (codes "day") (Number 5)
    ∷ field (codes "month") (Number 4)
    ∷ field (codes "hour") (Number 5)
    ∷ field (codes "minute") (Number 6)
    ∷ [])

-- ETSI EN 300 468, D.3: what an AC-3 audio component is
abbrev pub ac3 : Page
ac3 = of_fields 0x6A (codes "AC3_descriptor") (
    false_if_absent (codes "component_type_flag")
    ∷ false_if_absent (codes "bsid_flag")
    ∷ false_if_absent (codes "mainid_flag")
    ∷ false_if_absent (codes "asvc_flag")
    ∷ field (codes "reserved") (Zeros 4)
    ∷ [])

-- the fields of the AC3_descriptor by what its first fields say
abbrev pub ac3_groups : List Group
ac3_groups =
    by_value 0 (1 ∷ []) (
    field (codes "component_type") (Number 8)
    ∷ [])
    ∷ by_value 1 (1 ∷ []) (
    field (codes "bsid") (Number 8)
    ∷ [])
    ∷ by_value 2 (1 ∷ []) (
    field (codes "mainid") (Number 8)
    ∷ [])
    ∷ by_value 3 (1 ∷ []) (
    field (codes "asvc") (Number 8)
    ∷ [])
    ∷ always (
    field (codes "additional_info") Hex
    ∷ [])
    ∷ []

-- ETSI EN 300 468, 6.2.2: what ancillary data an audio component has
abbrev pub ancillary_data : Page
ancillary_data = of_fields 0x6B (codes "ancillary_data_descriptor") (
    field (codes "ancillary_data_identifier") (Number 8)
    ∷ [])

-- ETSI EN 300 468, 6.2.3: the announcements that a service has, and where they are
abbrev pub announcement_support : Page
announcement_support = of_fields 0x6E (codes "announcement_support_descriptor") (
    field (codes "announcement_support_indicator") (Number 16)
    ∷ [])

-- the items of the announcement_support_descriptor
abbrev pub announcement_support_form : Form
announcement_support_form = record {
  name = codes "announcement";
  head = (
      field (codes "announcement_type") (Number 4)
      ∷ field (codes "reserved") (Reserved 1)
      ∷ field (codes "reference_type") (Number 3)
      ∷ []);
  groups =
      by_value 2 (1 ∷ 2 ∷ 3 ∷ []) (
      field (codes "original_network_id") (Number 16)
      ∷ field (codes "transport_stream_id") (Number 16)
      ∷ field (codes "service_id") (Number 16)
      ∷ field (codes "component_tag") (Number 8)
      ∷ [])
      ∷ [];
  inner = None;
}

-- ETSI TS 102 809, 5.3.5.1: the applications whose table a component has
abbrev pub application_signalling : Page
application_signalling = of_items 0x6F (codes "application_signalling_descriptor") (codes "application") (
    field (codes "reserved") (Reserved 1)
    ∷ field (codes "application_type") (Number 15)
    ∷ field (codes "reserved_2") (Reserved 3)
    ∷ field (codes "AIT_version_number") (Number 5)
    ∷ [])

-- ETSI TS 102 809, 6.2.1: the name of a service for applications
abbrev pub service_identifier : Page
service_identifier = of_fields 0x71 (codes "service_identifier_descriptor") (
    field (codes "service_identifier") Text
    ∷ [])

-- ETSI EN 300 468, 6.2.34: the cells in which a service is there, or is not
abbrev pub service_availability : Page
service_availability = with_items 0x72 (codes "service_availability_descriptor") (
    field (codes "availability") Flag
    ∷ field (codes "reserved") (Reserved 7)
    ∷ []) (codes "cell") (
    field (codes "id") (Number 16)
    ∷ [])

-- ETSI TS 102 323, 6.3.3: the authority that the names of contents begin with
abbrev pub default_authority : Page
default_authority = of_fields 0x73 (codes "default_authority_descriptor") (
    field (codes "default_authority") Text
    ∷ [])

-- ETSI TS 102 323, 12.1: the names of contents that an event belongs to
abbrev pub content_identifier : Page
content_identifier = of_fields 0x76 (codes "content_identifier_descriptor") []

-- the items of the content_identifier_descriptor
abbrev pub content_identifier_form : Form
content_identifier_form = record {
  name = codes "CRID";
  head = (
      field (codes "crid_type") (Number 6)
      ∷ field (codes "crid_location") (Number 2)
      ∷ []);
  groups =
      by_value 1 (0 ∷ []) (
      field (codes "crid") CountedText
      ∷ [])
      ∷ by_value 1 (1 ∷ []) (
      field (codes "crid_ref") (Number 16)
      ∷ [])
      ∷ [];
  inner = None;
}

-- ETSI EN 300 468, 6.2.13.3: what a DVB-S2 receiver needs beside the satellite_delivery_system_descriptor
abbrev pub s2_satellite_delivery_system : Page
s2_satellite_delivery_system = of_fields 0x79 (codes "S2_satellite_delivery_system_descriptor") (
    false_if_absent (codes "scrambling_sequence_selector")
    ∷ false_if_absent (codes "multiple_input_stream_flag")
    ∷ field (codes "reserved") (Zeros 1)
    ∷ false_if_absent (codes "not_timeslice_flag")
    ∷ field (codes "reserved_2") (Reserved 2)
    ∷ field (codes "TS_GS_mode") (Number 2)
    ∷ [])

-- the fields of the S2_satellite_delivery_system_descriptor by what its first fields say
abbrev pub s2_satellite_delivery_system_groups : List Group
s2_satellite_delivery_system_groups =
    by_value 0 (1 ∷ []) (
    field (codes "reserved_3") (Reserved 6)
    ∷ field (codes "scrambling_sequence_index") (Number 18)
    ∷ [])
    ∷ by_value 1 (1 ∷ []) (
    field (codes "input_stream_identifier") (Number 8)
    ∷ [])
    ∷ by_value 3 (0 ∷ []) (
    field (codes "timeslice_number") (Number 8)
    ∷ [])
    ∷ []

-- ETSI EN 300 468, D.5: what an enhanced AC-3 audio component is
abbrev pub enhanced_ac3 : Page
enhanced_ac3 = of_fields 0x7A (codes "enhanced_AC3_descriptor") (
    false_if_absent (codes "component_type_flag")
    ∷ false_if_absent (codes "bsid_flag")
    ∷ false_if_absent (codes "mainid_flag")
    ∷ false_if_absent (codes "asvc_flag")
    ∷ field (codes "mixinfoexists") Flag
    ∷ false_if_absent (codes "substream1_flag")
    ∷ false_if_absent (codes "substream2_flag")
    ∷ false_if_absent (codes "substream3_flag")
    ∷ [])

-- the fields of the enhanced_AC3_descriptor by what its first fields say
abbrev pub enhanced_ac3_groups : List Group
enhanced_ac3_groups =
    by_value 0 (1 ∷ []) (
    field (codes "component_type") (Number 8)
    ∷ [])
    ∷ by_value 1 (1 ∷ []) (
    field (codes "bsid") (Number 8)
    ∷ [])
    ∷ by_value 2 (1 ∷ []) (
    field (codes "mainid") (Number 8)
    ∷ [])
    ∷ by_value 3 (1 ∷ []) (
    field (codes "asvc") (Number 8)
    ∷ [])
    ∷ by_value 5 (1 ∷ []) (
    field (codes "substream1") (Number 8)
    ∷ [])
    ∷ by_value 6 (1 ∷ []) (
    field (codes "substream2") (Number 8)
    ∷ [])
    ∷ by_value 7 (1 ∷ []) (
    field (codes "substream3") (Number 8)
    ∷ [])
    ∷ always (
    field (codes "additional_info") Hex
    ∷ [])
    ∷ []

-- ETSI EN 300 468, G.2.1: how a DTS audio component is coded
abbrev pub dts : Page
dts = of_fields 0x7B (codes "DTS_descriptor") (
    field (codes "sample_rate_code") (Number 4)
    ∷ field (codes "bit_rate_code") (Number 6)
    ∷ field (codes "nblks") (Number 7)
    ∷ field (codes "fsize") (Number 14)
    ∷ field (codes "surround_mode") (Number 6)
    ∷ field (codes "lfe_flag") (Number 1)
    ∷ field (codes "extended_surround_flag") (Number 2)
    ∷ field (codes "additional_info") Hex
    ∷ [])

-- ETSI EN 300 468, H.2.1: the profile and level of an AAC audio component
abbrev pub aac : Page
aac = of_fields 0x7C (codes "AAC_descriptor") (
    field (codes "profile_and_level") (Number 8)
    ∷ field (codes "AAC_data") Hex
    ∷ [])

-- ETSI EN 300 468, 6.2.18: what may be done with content that is in the clear
abbrev pub fta_content_management : Page
fta_content_management = of_fields 0x7E (codes "FTA_content_management_descriptor") (
    field (codes "user_defined") Flag
    ∷ field (codes "reserved") (Reserved 3)
    ∷ field (codes "do_not_scramble") Flag
    ∷ field (codes "control_remote_access_over_internet") (Number 2)
    ∷ field (codes "do_not_apply_revocation") Flag
    ∷ [])

-- ETSI EN 300 468, 6.4.6.3: how DVB-T2 carries a transport stream
abbrev pub t2_delivery_system : Page
t2_delivery_system = of_fields 0x04 (codes "T2_delivery_system_descriptor") (
    field (codes "plp_id") (Number 8)
    ∷ field (codes "T2_system_id") (Number 16)
    ∷ field (codes "T2_data") Hex
    ∷ [])

-- ETSI EN 300 468, 6.4.11: what an audio component adds to a programme
abbrev pub supplementary_audio : Page
supplementary_audio = of_fields 0x06 (codes "supplementary_audio_descriptor") (
    field (codes "mix_type") (Number 1)
    ∷ field (codes "editorial_classification") (Number 5)
    ∷ field (codes "reserved") (Reserved 1)
    ∷ false_if_absent (codes "language_code_present")
    ∷ [])

-- the fields of the supplementary_audio_descriptor by what its first fields say
abbrev pub supplementary_audio_groups : List Group
supplementary_audio_groups =
    by_value 3 (1 ∷ []) (
    field (codes "language_code") Language
    ∷ [])
    ∷ always (
    field (codes "private_data") Hex
    ∷ [])
    ∷ []

-- ETSI EN 300 468, 6.4.7: a text for viewers, by its number
abbrev pub message : Page
message = of_fields 0x08 (codes "message_descriptor") (
    field (codes "message_id") (Number 8)
    ∷ field (codes "language_code") Language
    ∷ field (codes "text") Text
    ∷ [])

-- ETSI EN 300 468, 6.4.6.1: how DVB-C2 carries a transport stream
abbrev pub c2_delivery_system : Page
c2_delivery_system = of_fields 0x0D (codes "C2_delivery_system_descriptor") (
    field (codes "plp_id") (Number 8)
    ∷ field (codes "data_slice_id") (Number 8)
    ∷ field (codes "C2_system_tuning_frequency") (Number 32)
    ∷ field (codes "C2_system_tuning_frequency_type") (Number 2)
    ∷ field (codes "active_OFDM_symbol_duration") (Number 3)
    ∷ field (codes "guard_interval") (Number 3)
    ∷ [])

-- ETSI EN 300 468, 6.4.16: where a resource on the internet is
abbrev pub uri_linkage : Page
uri_linkage = of_fields 0x13 (codes "URI_linkage_descriptor") (
    field (codes "uri_linkage_type") (Number 8)
    ∷ field (codes "uri") CountedText
    ∷ [])

-- the fields of the URI_linkage_descriptor by what its first fields say
abbrev pub uri_linkage_groups : List Group
uri_linkage_groups =
    by_value 0 (0 ∷ 1 ∷ []) (
    field (codes "min_polling_interval") (Number 16)
    ∷ [])
    ∷ always (
    field (codes "private_data") Hex
    ∷ [])
    ∷ []

-- ETSI EN 300 468, D.7: what an AC-4 audio component is
abbrev pub ac4 : Page
ac4 = of_fields 0x15 (codes "AC4_descriptor") (
    false_if_absent (codes "ac4_config_flag")
    ∷ false_if_absent (codes "ac4_toc_flag")
    ∷ field (codes "reserved") (Zeros 6)
    ∷ [])

-- the fields of the AC4_descriptor by what its first fields say
abbrev pub ac4_groups : List Group
ac4_groups =
    by_value 0 (1 ∷ []) (
    field (codes "ac4_dialog_enhancement_enabled") Flag
    ∷ field (codes "ac4_channel_mode") (Number 2)
    ∷ field (codes "reserved_2") (Zeros 5)
    ∷ [])
    ∷ by_value 1 (1 ∷ []) (
    field (codes "ac4_dsi") CountedHex
    ∷ [])
    ∷ always (
    field (codes "additional_info") Hex
    ∷ [])
    ∷ []

-- ETSI EN 303 560, 5.2.1.1: what a component of subtitles in TTML is
abbrev pub ttml_subtitling : Page
ttml_subtitling = of_fields 0x20 (codes "TTML_subtitling_descriptor") (
    field (codes "language_code") Language
    ∷ field (codes "subtitle_purpose") (Number 6)
    ∷ field (codes "TTS_suitability") (Number 2)
    ∷ field (codes "TTML_data") Hex
    ∷ [])

-- EACEM TR-030: the numbers under which a receiver lists services
abbrev pub logical_channel : Page
logical_channel = of_items 0x83 (codes "logical_channel_descriptor") (codes "service") (
    field (codes "service_id") (Number 16)
    ∷ field (codes "visible_service") Flag
    ∷ reserved 5
    ∷ field (codes "logical_channel_number") (Number 10)
    ∷ [])

-- NorDig Unified, 12.2.9.3: lists of numbers under which a receiver lists services
abbrev pub logical_channel_v2 : Page
logical_channel_v2 = of_fields 0x87 (codes "logical_channel_descriptor_v2") []

-- the items of the logical_channel_descriptor_v2
abbrev pub logical_channel_v2_form : Form
logical_channel_v2_form = record {
  name = codes "list";
  head = (
      field (codes "channel_list_id") (Number 8)
      ∷ field (codes "channel_list_name") CountedText
      ∷ field (codes "country_code") Language
      ∷ []);
  groups = [];
  inner = Some (
    codes "service",
    (
        field (codes "service_id") (Number 16)
        ∷ field (codes "visible_service") Flag
        ∷ reserved 5
        ∷ field (codes "logical_channel_number") (Number 10)
        ∷ []),
  );
}

-- EACEM TR-030: the numbers of services that replace others in high definition
abbrev pub hd_simulcast_logical_channel : Page
hd_simulcast_logical_channel = of_items 0x88 (codes "HD_simulcast_logical_channel_descriptor") (codes "service") (
    field (codes "service_id") (Number 16)
    ∷ field (codes "visible_service") Flag
    ∷ reserved 5
    ∷ field (codes "logical_channel_number") (Number 10)
    ∷ [])
