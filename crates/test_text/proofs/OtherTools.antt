-- Worked rows: descriptors that other tools wrote, as JSON shows them. The bytes are of streams that the encoders of
-- biTStream (tests/data/bits_si.ts) and libdvbpsi (tests/data/dvbpsi_si.ts), GStreamer, DVBlast and another multiplexer
-- made; the values were read from them by another reader.
use Rattle.std.proofs.Common.{◌≡◌, ◌∷◌, [], refl}
use Rattle.std.specs.Prelude.{codes}
use Rattle.serde_json.specs.Written.{compact_text}
use Rattle.ts_fields.specs.Bits.{bits, number_of}
use Rattle.ts_fields.specs.Bodies.{read_page, read_after, read_items, read_loop}
use Rattle.ts_days.specs.Calendar.{day_of_month, day_of_year}
use Rattle.ts_days.specs.DayTexts.{day_text}
use Rattle.ts_days.specs.TimeTexts.{start_text, time_text}
use Rattle.ts_fields.specs.Times.{is_pair, is_start, is_time}
use Rattle.ts_fields.specs.Reading.{read_number, read_bytes, read_decimal, read_rest, read_field, read_rows}
use Rattle.ts_groups.specs.Groups.{read_grouped}
use Rattle.ts_item_forms.specs.ItemForms.{read_each, read_formed, read_item}
use Rattle.ts_jtree.proofs.OnLiterals.{shown_on_literals}
use Rattle.ts_json_descr.specs.DescrElements.{descr_shown}
use Rattle.ts_shown_pages.specs.Pages.{second_quarter, third_quarter, last_quarter}

-- 0x02, of biTStream
video-stream-row : compact_text (descr_shown (record { tag = 0x02; body = 0x9F ∷ [] }))
    ≡ codes "{\"#name\":\"video_stream_descriptor\",\"MPEG_1_only\":true,\"constrained_parameter\":true,\"frame_rate_code\":3,\"multiple_frame_rate\":true,\"still_picture\":true}"
unfolding bits number_of read_number read_bytes read_decimal read_rest read_field read_rows read_page read_after read_items read_loop read_grouped second_quarter third_quarter last_quarter shown_on_literals
video-stream-row = refl

-- 0x02, of biTStream
video-stream-row-2 : compact_text (descr_shown (record { tag = 0x02; body = 0xA3 ∷ 0x48 ∷ 0x9F ∷ [] }))
    ≡ codes "{\"#name\":\"video_stream_descriptor\",\"MPEG_1_only\":false,\"chroma_format\":2,\"constrained_parameter\":true,\"frame_rate_code\":4,\"frame_rate_extension\":false,\"multiple_frame_rate\":true,\"profile_and_level_indication\":72,\"still_picture\":true}"
unfolding bits number_of read_number read_bytes read_decimal read_rest read_field read_rows read_page read_after read_items read_loop read_grouped second_quarter third_quarter last_quarter shown_on_literals
video-stream-row-2 = refl

-- 0x03, of biTStream
audio-stream-row : compact_text (descr_shown (record { tag = 0x03; body = 0xEF ∷ [] }))
    ≡ codes "{\"#name\":\"audio_stream_descriptor\",\"ID\":1,\"free_format\":true,\"layer\":2,\"variable_rate_audio\":true}"
unfolding bits number_of read_number read_bytes read_decimal read_rest read_field read_rows read_page read_after read_items read_loop second_quarter third_quarter last_quarter shown_on_literals
audio-stream-row = refl

-- 0x09, of biTStream
ca-row : compact_text (descr_shown (record { tag = 0x09; body = 0xB0 ∷ 0x00 ∷ 0xE4 ∷ 0xD2 ∷ [] }))
    ≡ codes "{\"#name\":\"CA_descriptor\",\"CA_PID\":1234,\"CA_system_id\":45056,\"private_data\":\"\"}"
unfolding bits number_of read_number read_bytes read_decimal read_rest read_field read_rows read_page read_after read_items read_loop second_quarter third_quarter last_quarter shown_on_literals
ca-row = refl

-- 0x0B, of libdvbpsi
system-clock-row : compact_text (descr_shown (record { tag = 0x0B; body = 0xDB ∷ 0x7F ∷ [] }))
    ≡ codes "{\"#name\":\"system_clock_descriptor\",\"clock_accuracy_exponent\":3,\"clock_accuracy_integer\":27,\"external_clock_reference\":true}"
unfolding bits number_of read_number read_bytes read_decimal read_rest read_field read_rows read_page read_after read_items read_loop second_quarter third_quarter last_quarter shown_on_literals
system-clock-row = refl

-- 0x0B, of biTStream
system-clock-row-2 : compact_text (descr_shown (record { tag = 0x0B; body = 0xFC ∷ 0x9F ∷ [] }))
    ≡ codes "{\"#name\":\"system_clock_descriptor\",\"clock_accuracy_exponent\":4,\"clock_accuracy_integer\":60,\"external_clock_reference\":true}"
unfolding bits number_of read_number read_bytes read_decimal read_rest read_field read_rows read_page read_after read_items read_loop second_quarter third_quarter last_quarter shown_on_literals
system-clock-row-2 = refl

-- 0x0C, of biTStream
multiplex-buffer-utilization-row : compact_text (descr_shown (record { tag = 0x0C; body = 0x84 ∷ 0xD2 ∷ 0x96 ∷ 0x2E ∷ [] }))
    ≡ codes "{\"#name\":\"multiplex_buffer_utilization_descriptor\",\"LTW_offset_lower_bound\":1234,\"LTW_offset_upper_bound\":5678,\"bound_valid_flag\":true}"
unfolding bits number_of read_number read_bytes read_decimal read_rest read_field read_rows read_page read_after read_items read_loop second_quarter third_quarter last_quarter shown_on_literals
multiplex-buffer-utilization-row = refl

-- 0x0E, of biTStream
maximum-bitrate-row : compact_text (descr_shown (record { tag = 0x0E; body = 0xC1 ∷ 0xE2 ∷ 0x40 ∷ [] }))
    ≡ codes "{\"#name\":\"maximum_bitrate_descriptor\",\"maximum_bitrate\":123456}"
unfolding bits number_of read_number read_bytes read_decimal read_rest read_field read_rows read_page read_after read_items read_loop second_quarter third_quarter last_quarter shown_on_literals
maximum-bitrate-row = refl

-- 0x0F, of libdvbpsi
private-data-indicator-row : compact_text (descr_shown (record { tag = 0x0F; body = 0x50 ∷ 0x52 ∷ 0x49 ∷ 0x56 ∷ [] }))
    ≡ codes "{\"#name\":\"private_data_indicator_descriptor\",\"private_data_indicator\":1347570006}"
unfolding bits number_of read_number read_bytes read_decimal read_rest read_field read_rows read_page read_after read_items read_loop second_quarter third_quarter last_quarter shown_on_literals
private-data-indicator-row = refl

-- 0x0F, of biTStream
private-data-indicator-row-2 : compact_text (descr_shown (record { tag = 0x0F; body = 0xAA ∷ 0xBB ∷ 0xCC ∷ 0xDD ∷ [] }))
    ≡ codes "{\"#name\":\"private_data_indicator_descriptor\",\"private_data_indicator\":2864434397}"
unfolding bits number_of read_number read_bytes read_decimal read_rest read_field read_rows read_page read_after read_items read_loop second_quarter third_quarter last_quarter shown_on_literals
private-data-indicator-row-2 = refl

-- 0x10, of biTStream
smoothing-buffer-row : compact_text (descr_shown (record { tag = 0x10; body = 0xC1 ∷ 0xB6 ∷ 0x69 ∷ 0xFE ∷ 0xBF ∷ 0x69 ∷ [] }))
    ≡ codes "{\"#name\":\"smoothing_buffer_descriptor\",\"sb_leak_rate\":112233,\"sb_size\":4112233}"
unfolding bits number_of read_number read_bytes read_decimal read_rest read_field read_rows read_page read_after read_items read_loop second_quarter third_quarter last_quarter shown_on_literals
smoothing-buffer-row = refl

-- 0x10, of libdvbpsi
smoothing-buffer-row-2 : compact_text (descr_shown (record { tag = 0x10; body = 0xC2 ∷ 0xAB ∷ 0xCD ∷ 0xC1 ∷ 0xFE ∷ 0xDC ∷ [] }))
    ≡ codes "{\"#name\":\"smoothing_buffer_descriptor\",\"sb_leak_rate\":175053,\"sb_size\":130780}"
unfolding bits number_of read_number read_bytes read_decimal read_rest read_field read_rows read_page read_after read_items read_loop second_quarter third_quarter last_quarter shown_on_literals
smoothing-buffer-row-2 = refl

-- 0x11, of biTStream
std-row : compact_text (descr_shown (record { tag = 0x11; body = 0xFF ∷ [] }))
    ≡ codes "{\"#name\":\"STD_descriptor\",\"leak_valid\":true}"
unfolding bits number_of read_number read_bytes read_decimal read_rest read_field read_rows read_page read_after read_items read_loop second_quarter third_quarter last_quarter shown_on_literals
std-row = refl

-- 0x1B, of biTStream
mpeg4-video-row : compact_text (descr_shown (record { tag = 0x1B; body = 0x12 ∷ [] }))
    ≡ codes "{\"#name\":\"MPEG4_video_descriptor\",\"MPEG4_visual_profile_and_level\":18}"
unfolding bits number_of read_number read_bytes read_decimal read_rest read_field read_rows read_page read_after read_items read_loop second_quarter third_quarter last_quarter shown_on_literals
mpeg4-video-row = refl

-- 0x1B, of libdvbpsi
mpeg4-video-row-2 : compact_text (descr_shown (record { tag = 0x1B; body = 0x34 ∷ [] }))
    ≡ codes "{\"#name\":\"MPEG4_video_descriptor\",\"MPEG4_visual_profile_and_level\":52}"
unfolding bits number_of read_number read_bytes read_decimal read_rest read_field read_rows read_page read_after read_items read_loop second_quarter third_quarter last_quarter shown_on_literals
mpeg4-video-row-2 = refl

-- 0x1C, of biTStream
mpeg4-audio-row : compact_text (descr_shown (record { tag = 0x1C; body = 0x13 ∷ [] }))
    ≡ codes "{\"#name\":\"MPEG4_audio_descriptor\",\"MPEG4_audio_profile_and_level\":19}"
unfolding bits number_of read_number read_bytes read_decimal read_rest read_field read_rows read_page read_after read_items read_loop second_quarter third_quarter last_quarter shown_on_literals
mpeg4-audio-row = refl

-- 0x1C, of libdvbpsi
mpeg4-audio-row-2 : compact_text (descr_shown (record { tag = 0x1C; body = 0x2C ∷ [] }))
    ≡ codes "{\"#name\":\"MPEG4_audio_descriptor\",\"MPEG4_audio_profile_and_level\":44}"
unfolding bits number_of read_number read_bytes read_decimal read_rest read_field read_rows read_page read_after read_items read_loop second_quarter third_quarter last_quarter shown_on_literals
mpeg4-audio-row-2 = refl

-- 0x28, of biTStream
avc-video-row : compact_text (descr_shown (record { tag = 0x28; body = 0x12 ∷ 0xCA ∷ 0x34 ∷ 0x3F ∷ [] }))
    ≡ codes "{\"#name\":\"AVC_video_descriptor\",\"AVC_24_hour_picture\":false,\"AVC_compatible_flags\":2,\"AVC_still_present\":false,\"Frame_Packing_SEI_not_present\":true,\"constraint_set0\":true,\"constraint_set1\":true,\"constraint_set2\":false,\"constraint_set3\":false,\"constraint_set4\":true,\"constraint_set5\":false,\"level_idc\":52,\"profile_idc\":18}"
unfolding bits number_of read_number read_bytes read_decimal read_rest read_field read_rows read_page read_after read_items read_loop second_quarter third_quarter last_quarter shown_on_literals
avc-video-row = refl

-- 0x28, of GStreamer
avc-video-row-2 : compact_text (descr_shown (record { tag = 0x28; body = 0x4D ∷ 0x40 ∷ 0x28 ∷ 0x3F ∷ [] }))
    ≡ codes "{\"#name\":\"AVC_video_descriptor\",\"AVC_24_hour_picture\":false,\"AVC_compatible_flags\":0,\"AVC_still_present\":false,\"Frame_Packing_SEI_not_present\":true,\"constraint_set0\":false,\"constraint_set1\":true,\"constraint_set2\":false,\"constraint_set3\":false,\"constraint_set4\":false,\"constraint_set5\":false,\"level_idc\":40,\"profile_idc\":77}"
unfolding bits number_of read_number read_bytes read_decimal read_rest read_field read_rows read_page read_after read_items read_loop second_quarter third_quarter last_quarter shown_on_literals
avc-video-row-2 = refl

-- 0x2B, of biTStream
mpeg2-aac-audio-row : compact_text (descr_shown (record { tag = 0x2B; body = 0x12 ∷ 0x05 ∷ 0x00 ∷ [] }))
    ≡ codes "{\"#name\":\"MPEG2_AAC_audio_descriptor\",\"MPEG2_AAC_additional_information\":0,\"MPEG2_AAC_channel_configuration\":5,\"MPEG2_AAC_profile\":18}"
unfolding bits number_of read_number read_bytes read_decimal read_rest read_field read_rows read_page read_after read_items read_loop second_quarter third_quarter last_quarter shown_on_literals
mpeg2-aac-audio-row = refl

-- 0x42, of biTStream
stuffing-row : compact_text (descr_shown (record { tag = 0x42; body = 0xAA ∷ 0xBB ∷ 0xCC ∷ 0xDD ∷ [] }))
    ≡ codes "{\"#name\":\"stuffing_descriptor\",\"stuffing\":\"aabbccdd\"}"
unfolding bits number_of read_number read_bytes read_decimal read_rest read_field read_rows read_page read_after read_items read_loop second_quarter third_quarter last_quarter shown_on_literals
stuffing-row = refl

-- 0x42, of libdvbpsi
stuffing-row-2 : compact_text (descr_shown (record { tag = 0x42; body = 0xFF ∷ 0xFF ∷ 0xFF ∷ 0xFF ∷ 0xFF ∷ [] }))
    ≡ codes "{\"#name\":\"stuffing_descriptor\",\"stuffing\":\"ffffffffff\"}"
unfolding bits number_of read_number read_bytes read_decimal read_rest read_field read_rows read_page read_after read_items read_loop second_quarter third_quarter last_quarter shown_on_literals
stuffing-row-2 = refl

-- 0x44, of biTStream
cable-delivery-system-row : compact_text (descr_shown (record { tag = 0x44; body = 0x03 ∷ 0x12 ∷ 0x00 ∷ 0x00 ∷ 0xFF ∷ 0xF0 ∷ 0x03 ∷ 0x02 ∷ 0x74 ∷ 0x50 ∷ 0x06 ∷ [] }))
    ≡ codes "{\"#name\":\"cable_delivery_system_descriptor\",\"FEC_inner\":6,\"FEC_outer\":0,\"frequency\":3120000,\"modulation\":3,\"symbol_rate\":274500}"
unfolding bits number_of read_number read_bytes read_decimal read_rest read_field read_rows read_page read_after read_items read_loop second_quarter third_quarter last_quarter shown_on_literals
cable-delivery-system-row = refl

-- 0x44, of libdvbpsi
cable-delivery-system-row-2 : compact_text (descr_shown (record { tag = 0x44; body = 0x03 ∷ 0x46 ∷ 0x00 ∷ 0x00 ∷ 0xFF ∷ 0x02 ∷ 0x05 ∷ 0x00 ∷ 0x68 ∷ 0x75 ∷ 0x0F ∷ [] }))
    ≡ codes "{\"#name\":\"cable_delivery_system_descriptor\",\"FEC_inner\":15,\"FEC_outer\":2,\"frequency\":3460000,\"modulation\":5,\"reserved\":4080,\"symbol_rate\":68750}"
unfolding bits number_of read_number read_bytes read_decimal read_rest read_field read_rows read_page read_after read_items read_loop second_quarter third_quarter last_quarter shown_on_literals
cable-delivery-system-row-2 = refl

-- 0x45, of biTStream
vbi-data-row : compact_text (descr_shown (record { tag = 0x45; body = 0x01 ∷ 0x08 ∷ 0xE0 ∷ 0xC1 ∷ 0xE2 ∷ 0xC3 ∷ 0xE4 ∷ 0xC5 ∷ 0xE6 ∷ 0xC7 ∷ 0x03 ∷ 0x04 ∷ 0x12 ∷ 0x34 ∷ 0x56 ∷ 0x78 ∷ 0x04 ∷ 0x01 ∷ 0xCA ∷ 0x05 ∷ 0x04 ∷ 0xD4 ∷ 0xF5 ∷ 0xD6 ∷ 0xF7 ∷ 0x06 ∷ 0x00 ∷ [] }))
    ≡ codes "{\"#name\":\"VBI_data_descriptor\",\"#nodes\":[{\"#name\":\"service\",\"data_service_id\":1,\"lines\":\"e0c1e2c3e4c5e6c7\"},{\"#name\":\"service\",\"data_service_id\":3,\"lines\":\"12345678\"},{\"#name\":\"service\",\"data_service_id\":4,\"lines\":\"ca\"},{\"#name\":\"service\",\"data_service_id\":5,\"lines\":\"d4f5d6f7\"},{\"#name\":\"service\",\"data_service_id\":6,\"lines\":\"\"}]}"
unfolding bits number_of read_number read_bytes read_decimal read_rest read_field read_rows read_page read_after read_items read_loop second_quarter third_quarter last_quarter shown_on_literals
vbi-data-row = refl

-- 0x46, of biTStream
vbi-teletext-row : compact_text (descr_shown (record { tag = 0x46; body = 0x65 ∷ 0x6E ∷ 0x67 ∷ 0x0B ∷ 0xFF ∷ 0x62 ∷ 0x75 ∷ 0x6C ∷ 0x12 ∷ 0x7F ∷ 0x66 ∷ 0x72 ∷ 0x65 ∷ 0x19 ∷ 0x40 ∷ [] }))
    ≡ codes "{\"#name\":\"VBI_teletext_descriptor\",\"#nodes\":[{\"#name\":\"teletext\",\"language_code\":\"eng\",\"teletext_magazine_number\":3,\"teletext_page_number\":255,\"teletext_type\":1},{\"#name\":\"teletext\",\"language_code\":\"bul\",\"teletext_magazine_number\":2,\"teletext_page_number\":127,\"teletext_type\":2},{\"#name\":\"teletext\",\"language_code\":\"fre\",\"teletext_magazine_number\":1,\"teletext_page_number\":64,\"teletext_type\":3}]}"
unfolding bits number_of read_number read_bytes read_decimal read_rest read_field read_rows read_page read_after read_items read_loop second_quarter third_quarter last_quarter shown_on_literals
vbi-teletext-row = refl

-- 0x49, of biTStream
country-availability-row : compact_text (descr_shown (record { tag = 0x49; body = 0x7F ∷ 0x47 ∷ 0x42 ∷ 0x52 ∷ 0x46 ∷ 0x52 ∷ 0x41 ∷ 0x42 ∷ 0x55 ∷ 0x4C ∷ [] }))
    ≡ codes "{\"#name\":\"country_availability_descriptor\",\"#nodes\":[{\"#name\":\"country\",\"country_code\":\"GBR\"},{\"#name\":\"country\",\"country_code\":\"FRA\"},{\"#name\":\"country\",\"country_code\":\"BUL\"}],\"country_availability\":false}"
unfolding bits number_of read_number read_bytes read_decimal read_rest read_field read_rows read_page read_after read_items read_loop second_quarter third_quarter last_quarter shown_on_literals
country-availability-row = refl

-- 0x49, of biTStream
country-availability-row-2 : compact_text (descr_shown (record { tag = 0x49; body = 0xFF ∷ 0x47 ∷ 0x42 ∷ 0x52 ∷ 0x46 ∷ 0x52 ∷ 0x41 ∷ 0x42 ∷ 0x55 ∷ 0x4C ∷ [] }))
    ≡ codes "{\"#name\":\"country_availability_descriptor\",\"#nodes\":[{\"#name\":\"country\",\"country_code\":\"GBR\"},{\"#name\":\"country\",\"country_code\":\"FRA\"},{\"#name\":\"country\",\"country_code\":\"BUL\"}],\"country_availability\":true}"
unfolding bits number_of read_number read_bytes read_decimal read_rest read_field read_rows read_page read_after read_items read_loop second_quarter third_quarter last_quarter shown_on_literals
country-availability-row-2 = refl

-- 0x4A, of biTStream
linkage-row : compact_text (descr_shown (record { tag = 0x4A; body = 0x29 ∷ 0x04 ∷ 0x9E ∷ 0x34 ∷ 0x00 ∷ 0x00 ∷ 0x04 ∷ [] }))
    ≡ codes "{\"#name\":\"linkage_descriptor\",\"linkage_type\":4,\"original_network_id\":40500,\"private_data\":\"\",\"service_id\":0,\"transport_stream_id\":10500}"
unfolding bits number_of read_number read_bytes read_decimal read_rest read_field read_rows read_page read_after read_items read_loop second_quarter third_quarter last_quarter shown_on_literals
linkage-row = refl

-- 0x4A, of biTStream
linkage-row-2 : compact_text (descr_shown (record { tag = 0x4A; body = 0x29 ∷ 0x68 ∷ 0x9E ∷ 0x98 ∷ 0x50 ∷ 0x78 ∷ 0x08 ∷ 0x1E ∷ 0xA0 ∷ 0x28 ∷ 0x52 ∷ 0x08 ∷ [] }))
    ≡ codes "{\"#name\":\"linkage_descriptor\",\"linkage_type\":8,\"original_network_id\":40600,\"private_data\":\"1ea0285208\",\"service_id\":20600,\"transport_stream_id\":10600}"
unfolding bits number_of read_number read_bytes read_decimal read_rest read_field read_rows read_page read_after read_items read_loop second_quarter third_quarter last_quarter shown_on_literals
linkage-row-2 = refl

-- 0x4B, of libdvbpsi
nvod-reference-row : compact_text (descr_shown (record { tag = 0x4B; body = 0x12 ∷ 0x34 ∷ 0x30 ∷ 0x01 ∷ 0x02 ∷ 0x01 ∷ 0x12 ∷ 0x35 ∷ 0x30 ∷ 0x01 ∷ 0x02 ∷ 0x02 ∷ [] }))
    ≡ codes "{\"#name\":\"NVOD_reference_descriptor\",\"#nodes\":[{\"#name\":\"service\",\"original_network_id\":12289,\"service_id\":513,\"transport_stream_id\":4660},{\"#name\":\"service\",\"original_network_id\":12289,\"service_id\":514,\"transport_stream_id\":4661}]}"
unfolding bits number_of read_number read_bytes read_decimal read_rest read_field read_rows read_page read_after read_items read_loop second_quarter third_quarter last_quarter shown_on_literals
nvod-reference-row = refl

-- 0x4B, of biTStream
nvod-reference-row-2 : compact_text (descr_shown (record { tag = 0x4B; body = 0x27 ∷ 0x10 ∷ 0x9C ∷ 0x40 ∷ 0x4E ∷ 0x20 ∷ 0x27 ∷ 0x74 ∷ 0x9C ∷ 0xA4 ∷ 0x4E ∷ 0x84 ∷ 0x27 ∷ 0xD8 ∷ 0x9D ∷ 0x08 ∷ 0x4E ∷ 0xE8 ∷ [] }))
    ≡ codes "{\"#name\":\"NVOD_reference_descriptor\",\"#nodes\":[{\"#name\":\"service\",\"original_network_id\":40000,\"service_id\":20000,\"transport_stream_id\":10000},{\"#name\":\"service\",\"original_network_id\":40100,\"service_id\":20100,\"transport_stream_id\":10100},{\"#name\":\"service\",\"original_network_id\":40200,\"service_id\":20200,\"transport_stream_id\":10200}]}"
unfolding bits number_of read_number read_bytes read_decimal read_rest read_field read_rows read_page read_after read_items read_loop second_quarter third_quarter last_quarter shown_on_literals
nvod-reference-row-2 = refl

-- 0x4C, of libdvbpsi
time-shifted-service-row : compact_text (descr_shown (record { tag = 0x4C; body = 0x01 ∷ 0x03 ∷ [] }))
    ≡ codes "{\"#name\":\"time_shifted_service_descriptor\",\"reference_service_id\":259}"
unfolding bits number_of read_number read_bytes read_decimal read_rest read_field read_rows read_page read_after read_items read_loop second_quarter third_quarter last_quarter shown_on_literals
time-shifted-service-row = refl

-- 0x4C, of biTStream
time-shifted-service-row-2 : compact_text (descr_shown (record { tag = 0x4C; body = 0x52 ∷ 0x08 ∷ [] }))
    ≡ codes "{\"#name\":\"time_shifted_service_descriptor\",\"reference_service_id\":21000}"
unfolding bits number_of read_number read_bytes read_decimal read_rest read_field read_rows read_page read_after read_items read_loop second_quarter third_quarter last_quarter shown_on_literals
time-shifted-service-row-2 = refl

-- 0x4E, of biTStream
extended-event-row : compact_text (descr_shown (record { tag = 0x4E; body = 0x00 ∷ 0x65 ∷ 0x6E ∷ 0x67 ∷ 0x30 ∷ 0x08 ∷ 0x44 ∷ 0x69 ∷ 0x72 ∷ 0x65 ∷ 0x63 ∷ 0x74 ∷ 0x6F ∷ 0x72 ∷ 0x0F ∷ 0x46 ∷ 0x61 ∷ 0x6D ∷ 0x6F ∷ 0x75 ∷ 0x73 ∷ 0x20 ∷ 0x64 ∷ 0x69 ∷ 0x72 ∷ 0x65 ∷ 0x63 ∷ 0x74 ∷ 0x6F ∷ 0x72 ∷ 0x04 ∷ 0x59 ∷ 0x65 ∷ 0x61 ∷ 0x72 ∷ 0x04 ∷ 0x32 ∷ 0x30 ∷ 0x31 ∷ 0x31 ∷ 0x06 ∷ 0x52 ∷ 0x61 ∷ 0x74 ∷ 0x69 ∷ 0x6E ∷ 0x67 ∷ 0x05 ∷ 0x2A ∷ 0x2A ∷ 0x2A ∷ 0x2B ∷ 0x2B ∷ 0x13 ∷ 0x57 ∷ 0x6F ∷ 0x77 ∷ 0x2C ∷ 0x20 ∷ 0x77 ∷ 0x68 ∷ 0x61 ∷ 0x74 ∷ 0x20 ∷ 0x61 ∷ 0x6E ∷ 0x20 ∷ 0x65 ∷ 0x76 ∷ 0x65 ∷ 0x6E ∷ 0x74 ∷ 0x21 ∷ [] }))
    ≡ codes "{\"#name\":\"extended_event_descriptor\",\"#nodes\":[{\"#name\":\"item\",\"item\":\"Famous director\",\"item_description\":\"Director\"},{\"#name\":\"item\",\"item\":\"2011\",\"item_description\":\"Year\"},{\"#name\":\"item\",\"item\":\"***++\",\"item_description\":\"Rating\"}],\"descriptor_number\":0,\"language_code\":\"eng\",\"last_descriptor_number\":0,\"text\":\"Wow, what an event!\"}"
unfolding bits number_of read_number read_bytes read_decimal read_rest read_field read_rows read_page read_after read_items read_loop second_quarter third_quarter last_quarter shown_on_literals
extended-event-row = refl

-- 0x4E, of DVBlast
extended-event-row-2 : compact_text (descr_shown (record { tag = 0x4E; body = 0x01 ∷ 0x66 ∷ 0x72 ∷ 0x61 ∷ 0x13 ∷ 0x08 ∷ 0x44 ∷ 0x69 ∷ 0x72 ∷ 0x65 ∷ 0x63 ∷ 0x74 ∷ 0x6F ∷ 0x72 ∷ 0x09 ∷ 0x41 ∷ 0x2E ∷ 0x20 ∷ 0x50 ∷ 0x65 ∷ 0x72 ∷ 0x73 ∷ 0x6F ∷ 0x6E ∷ 0x1B ∷ 0x54 ∷ 0x68 ∷ 0x65 ∷ 0x20 ∷ 0x6C ∷ 0x6F ∷ 0x6E ∷ 0x67 ∷ 0x20 ∷ 0x74 ∷ 0x65 ∷ 0x78 ∷ 0x74 ∷ 0x20 ∷ 0x6F ∷ 0x66 ∷ 0x20 ∷ 0x74 ∷ 0x68 ∷ 0x65 ∷ 0x20 ∷ 0x65 ∷ 0x76 ∷ 0x65 ∷ 0x6E ∷ 0x74 ∷ 0x2E ∷ [] }))
    ≡ codes "{\"#name\":\"extended_event_descriptor\",\"#nodes\":[{\"#name\":\"item\",\"item\":\"A. Person\",\"item_description\":\"Director\"}],\"descriptor_number\":0,\"language_code\":\"fra\",\"last_descriptor_number\":1,\"text\":\"The long text of the event.\"}"
unfolding bits number_of read_number read_bytes read_decimal read_rest read_field read_rows read_page read_after read_items read_loop second_quarter third_quarter last_quarter shown_on_literals
extended-event-row-2 = refl

-- 0x4F, of libdvbpsi
time-shifted-event-row : compact_text (descr_shown (record { tag = 0x4F; body = 0x01 ∷ 0x03 ∷ 0x60 ∷ 0x01 ∷ [] }))
    ≡ codes "{\"#name\":\"time_shifted_event_descriptor\",\"reference_event_id\":24577,\"reference_service_id\":259}"
unfolding bits number_of read_number read_bytes read_decimal read_rest read_field read_rows read_page read_after read_items read_loop second_quarter third_quarter last_quarter shown_on_literals
time-shifted-event-row = refl

-- 0x4F, of biTStream
time-shifted-event-row-2 : compact_text (descr_shown (record { tag = 0x4F; body = 0x55 ∷ 0xF0 ∷ 0x7D ∷ 0x00 ∷ [] }))
    ≡ codes "{\"#name\":\"time_shifted_event_descriptor\",\"reference_event_id\":32000,\"reference_service_id\":22000}"
unfolding bits number_of read_number read_bytes read_decimal read_rest read_field read_rows read_page read_after read_items read_loop second_quarter third_quarter last_quarter shown_on_literals
time-shifted-event-row-2 = refl

-- 0x58, of biTStream
local-time-offset-row : compact_text (descr_shown (record { tag = 0x58; body = 0x42 ∷ 0x55 ∷ 0x4C ∷ 0x0B ∷ 0x02 ∷ 0x00 ∷ 0xD6 ∷ 0x5B ∷ 0x23 ∷ 0x31 ∷ 0x30 ∷ 0x03 ∷ 0x00 ∷ 0x55 ∷ 0x53 ∷ 0x41 ∷ 0x26 ∷ 0x14 ∷ 0x00 ∷ 0xCB ∷ 0xC1 ∷ 0x01 ∷ 0x46 ∷ 0x39 ∷ 0x18 ∷ 0x30 ∷ [] }))
    ≡ codes "{\"#name\":\"local_time_offset_descriptor\",\"#nodes\":[{\"#name\":\"region\",\"country_code\":\"BUL\",\"country_region_id\":2,\"local_time_offset\":200,\"local_time_offset_polarity\":1,\"next_time_offset\":300,\"time_of_change\":\"2009-02-13 23:31:30\"},{\"#name\":\"region\",\"country_code\":\"USA\",\"country_region_id\":9,\"local_time_offset\":1400,\"local_time_offset_polarity\":0,\"next_time_offset\":1830,\"time_of_change\":\"2001-09-09 01:46:39\"}]}"
unfolding bits number_of read_number read_bytes read_decimal read_rest read_field read_rows read_page read_after read_items read_loop second_quarter third_quarter last_quarter shown_on_literals is_start is_time is_pair start_text day_text day_of_year day_of_month time_text
local-time-offset-row = refl

-- 0x58, of DVBlast
local-time-offset-row-2 : compact_text (descr_shown (record { tag = 0x58; body = 0x46 ∷ 0x52 ∷ 0x41 ∷ 0x02 ∷ 0x02 ∷ 0x00 ∷ 0xEC ∷ 0xC2 ∷ 0x02 ∷ 0x00 ∷ 0x00 ∷ 0x01 ∷ 0x00 ∷ 0x47 ∷ 0x52 ∷ 0x43 ∷ 0x02 ∷ 0x03 ∷ 0x00 ∷ 0xEC ∷ 0xC2 ∷ 0x02 ∷ 0x00 ∷ 0x00 ∷ 0x02 ∷ 0x00 ∷ [] }))
    ≡ codes "{\"#name\":\"local_time_offset_descriptor\",\"#nodes\":[{\"#name\":\"region\",\"country_code\":\"FRA\",\"country_region_id\":0,\"local_time_offset\":200,\"local_time_offset_polarity\":0,\"next_time_offset\":100,\"time_of_change\":\"2024-10-27 02:00:00\"},{\"#name\":\"region\",\"country_code\":\"GRC\",\"country_region_id\":0,\"local_time_offset\":300,\"local_time_offset_polarity\":0,\"next_time_offset\":200,\"time_of_change\":\"2024-10-27 02:00:00\"}]}"
unfolding bits number_of read_number read_bytes read_decimal read_rest read_field read_rows read_page read_after read_items read_loop second_quarter third_quarter last_quarter shown_on_literals is_start is_time is_pair start_text day_text day_of_year day_of_month time_text
local-time-offset-row-2 = refl

-- 0x5A, of libdvbpsi
terrestrial-delivery-system-row : compact_text (descr_shown (record { tag = 0x5A; body = 0x02 ∷ 0xEB ∷ 0xAE ∷ 0x40 ∷ 0x1F ∷ 0x81 ∷ 0x93 ∷ 0xFF ∷ 0xFF ∷ 0xFF ∷ 0xFF ∷ [] }))
    ≡ codes "{\"#name\":\"terrestrial_delivery_system_descriptor\",\"MPE_FEC\":1,\"bandwidth\":0,\"centre_frequency\":49000000,\"code_rate_HP\":1,\"code_rate_LP\":4,\"constellation\":2,\"guard_interval\":2,\"hierarchy\":0,\"other_frequency\":1,\"priority\":1,\"time_slicing\":1,\"transmission_mode\":1}"
unfolding bits number_of read_number read_bytes read_decimal read_rest read_field read_rows read_page read_after read_items read_loop second_quarter third_quarter last_quarter shown_on_literals is_start is_time is_pair start_text day_text day_of_year day_of_month time_text
terrestrial-delivery-system-row = refl

-- 0x5B, of biTStream
multilingual-network-name-row : compact_text (descr_shown (record { tag = 0x5B; body = 0x65 ∷ 0x6E ∷ 0x67 ∷ 0x09 ∷ 0x4D ∷ 0x20 ∷ 0x4E ∷ 0x65 ∷ 0x74 ∷ 0x77 ∷ 0x6F ∷ 0x72 ∷ 0x6B ∷ 0x66 ∷ 0x72 ∷ 0x65 ∷ 0x09 ∷ 0x4D ∷ 0x20 ∷ 0x4E ∷ 0x65 ∷ 0x74 ∷ 0x77 ∷ 0x6F ∷ 0x72 ∷ 0x6B ∷ 0x62 ∷ 0x75 ∷ 0x6C ∷ 0x09 ∷ 0x4D ∷ 0x20 ∷ 0x4E ∷ 0x65 ∷ 0x74 ∷ 0x77 ∷ 0x6F ∷ 0x72 ∷ 0x6B ∷ [] }))
    ≡ codes "{\"#name\":\"multilingual_network_name_descriptor\",\"#nodes\":[{\"#name\":\"language\",\"code\":\"eng\",\"network_name\":\"M Network\"},{\"#name\":\"language\",\"code\":\"fre\",\"network_name\":\"M Network\"},{\"#name\":\"language\",\"code\":\"bul\",\"network_name\":\"M Network\"}]}"
unfolding bits number_of read_number read_bytes read_decimal read_rest read_field read_rows read_page read_after read_items read_loop second_quarter third_quarter last_quarter shown_on_literals
multilingual-network-name-row = refl

-- 0x5C, of biTStream
multilingual-bouquet-name-row : compact_text (descr_shown (record { tag = 0x5C; body = 0x65 ∷ 0x6E ∷ 0x67 ∷ 0x09 ∷ 0x4D ∷ 0x20 ∷ 0x42 ∷ 0x6F ∷ 0x75 ∷ 0x71 ∷ 0x75 ∷ 0x65 ∷ 0x74 ∷ 0x66 ∷ 0x72 ∷ 0x65 ∷ 0x09 ∷ 0x4D ∷ 0x20 ∷ 0x42 ∷ 0x6F ∷ 0x75 ∷ 0x71 ∷ 0x75 ∷ 0x65 ∷ 0x74 ∷ 0x62 ∷ 0x75 ∷ 0x6C ∷ 0x09 ∷ 0x4D ∷ 0x20 ∷ 0x42 ∷ 0x6F ∷ 0x75 ∷ 0x71 ∷ 0x75 ∷ 0x65 ∷ 0x74 ∷ [] }))
    ≡ codes "{\"#name\":\"multilingual_bouquet_name_descriptor\",\"#nodes\":[{\"#name\":\"language\",\"bouquet_name\":\"M Bouquet\",\"code\":\"eng\"},{\"#name\":\"language\",\"bouquet_name\":\"M Bouquet\",\"code\":\"fre\"},{\"#name\":\"language\",\"bouquet_name\":\"M Bouquet\",\"code\":\"bul\"}]}"
unfolding bits number_of read_number read_bytes read_decimal read_rest read_field read_rows read_page read_after read_items read_loop second_quarter third_quarter last_quarter shown_on_literals
multilingual-bouquet-name-row = refl

-- 0x5D, of biTStream
multilingual-service-name-row : compact_text (descr_shown (record { tag = 0x5D; body = 0x65 ∷ 0x6E ∷ 0x67 ∷ 0x0A ∷ 0x4D ∷ 0x20 ∷ 0x50 ∷ 0x72 ∷ 0x6F ∷ 0x76 ∷ 0x69 ∷ 0x64 ∷ 0x65 ∷ 0x72 ∷ 0x09 ∷ 0x4D ∷ 0x20 ∷ 0x53 ∷ 0x65 ∷ 0x72 ∷ 0x76 ∷ 0x69 ∷ 0x63 ∷ 0x65 ∷ 0x66 ∷ 0x72 ∷ 0x65 ∷ 0x0A ∷ 0x4D ∷ 0x20 ∷ 0x50 ∷ 0x72 ∷ 0x6F ∷ 0x76 ∷ 0x69 ∷ 0x64 ∷ 0x65 ∷ 0x72 ∷ 0x09 ∷ 0x4D ∷ 0x20 ∷ 0x53 ∷ 0x65 ∷ 0x72 ∷ 0x76 ∷ 0x69 ∷ 0x63 ∷ 0x65 ∷ 0x62 ∷ 0x75 ∷ 0x6C ∷ 0x0A ∷ 0x4D ∷ 0x20 ∷ 0x50 ∷ 0x72 ∷ 0x6F ∷ 0x76 ∷ 0x69 ∷ 0x64 ∷ 0x65 ∷ 0x72 ∷ 0x09 ∷ 0x4D ∷ 0x20 ∷ 0x53 ∷ 0x65 ∷ 0x72 ∷ 0x76 ∷ 0x69 ∷ 0x63 ∷ 0x65 ∷ [] }))
    ≡ codes "{\"#name\":\"multilingual_service_name_descriptor\",\"#nodes\":[{\"#name\":\"language\",\"code\":\"eng\",\"service_name\":\"M Service\",\"service_provider_name\":\"M Provider\"},{\"#name\":\"language\",\"code\":\"fre\",\"service_name\":\"M Service\",\"service_provider_name\":\"M Provider\"},{\"#name\":\"language\",\"code\":\"bul\",\"service_name\":\"M Service\",\"service_provider_name\":\"M Provider\"}]}"
unfolding bits number_of read_number read_bytes read_decimal read_rest read_field read_rows read_page read_after read_items read_loop second_quarter third_quarter last_quarter shown_on_literals
multilingual-service-name-row = refl

-- 0x5E, of biTStream
multilingual-component-row : compact_text (descr_shown (record { tag = 0x5E; body = 0x2E ∷ 0x65 ∷ 0x6E ∷ 0x67 ∷ 0x06 ∷ 0x53 ∷ 0x74 ∷ 0x65 ∷ 0x72 ∷ 0x65 ∷ 0x6F ∷ 0x66 ∷ 0x72 ∷ 0x65 ∷ 0x06 ∷ 0x53 ∷ 0x74 ∷ 0x65 ∷ 0x72 ∷ 0x65 ∷ 0x6F ∷ 0x62 ∷ 0x75 ∷ 0x6C ∷ 0x06 ∷ 0x53 ∷ 0x74 ∷ 0x65 ∷ 0x72 ∷ 0x65 ∷ 0x6F ∷ [] }))
    ≡ codes "{\"#name\":\"multilingual_component_descriptor\",\"#nodes\":[{\"#name\":\"language\",\"code\":\"eng\",\"description\":\"Stereo\"},{\"#name\":\"language\",\"code\":\"fre\",\"description\":\"Stereo\"},{\"#name\":\"language\",\"code\":\"bul\",\"description\":\"Stereo\"}],\"component_tag\":46}"
unfolding bits number_of read_number read_bytes read_decimal read_rest read_field read_rows read_page read_after read_items read_loop second_quarter third_quarter last_quarter shown_on_literals
multilingual-component-row = refl

-- 0x60, of biTStream
service-move-row : compact_text (descr_shown (record { tag = 0x60; body = 0x27 ∷ 0x10 ∷ 0x3A ∷ 0x98 ∷ 0x4E ∷ 0x20 ∷ [] }))
    ≡ codes "{\"#name\":\"service_move_descriptor\",\"new_original_network_id\":10000,\"new_service_id\":20000,\"new_transport_stream_id\":15000}"
unfolding bits number_of read_number read_bytes read_decimal read_rest read_field read_rows read_page read_after read_items read_loop second_quarter third_quarter last_quarter shown_on_literals
service-move-row = refl

-- 0x61, of biTStream
short-smoothing-buffer-row : compact_text (descr_shown (record { tag = 0x61; body = 0x4A ∷ [] }))
    ≡ codes "{\"#name\":\"short_smoothing_buffer_descriptor\",\"DVB_reserved\":\"\",\"sb_leak_rate\":10,\"sb_size\":1}"
unfolding bits number_of read_number read_bytes read_decimal read_rest read_field read_rows read_page read_after read_items read_loop second_quarter third_quarter last_quarter shown_on_literals
short-smoothing-buffer-row = refl

-- 0x62, of biTStream
frequency-list-row : compact_text (descr_shown (record { tag = 0x62; body = 0xFE ∷ 0x03 ∷ 0x12 ∷ 0x00 ∷ 0x00 ∷ 0x03 ∷ 0x18 ∷ 0x00 ∷ 0x00 ∷ 0x03 ∷ 0x24 ∷ 0x00 ∷ 0x00 ∷ 0x03 ∷ 0x30 ∷ 0x00 ∷ 0x00 ∷ 0x03 ∷ 0x36 ∷ 0x00 ∷ 0x00 ∷ [] }))
    ≡ codes "{\"#name\":\"frequency_list_descriptor\",\"#nodes\":[{\"#name\":\"frequency\",\"centre_frequency\":51511296},{\"#name\":\"frequency\",\"centre_frequency\":51904512},{\"#name\":\"frequency\",\"centre_frequency\":52690944},{\"#name\":\"frequency\",\"centre_frequency\":53477376},{\"#name\":\"frequency\",\"centre_frequency\":53870592}],\"coding_type\":2}"
unfolding bits number_of read_number read_bytes read_decimal read_rest read_field read_rows read_page read_after read_items read_loop second_quarter third_quarter last_quarter shown_on_literals
frequency-list-row = refl

-- 0x64, of biTStream
data-broadcast-row : compact_text (descr_shown (record { tag = 0x64; body = 0x11 ∷ 0x22 ∷ 0x4E ∷ 0x05 ∷ 0x42 ∷ 0x59 ∷ 0x22 ∷ 0x54 ∷ 0x45 ∷ 0x65 ∷ 0x6E ∷ 0x67 ∷ 0x09 ∷ 0x53 ∷ 0x6F ∷ 0x6D ∷ 0x65 ∷ 0x20 ∷ 0x74 ∷ 0x65 ∷ 0x78 ∷ 0x74 ∷ [] }))
    ≡ codes "{\"#name\":\"data_broadcast_descriptor\",\"component_tag\":78,\"data_broadcast_id\":4386,\"language_code\":\"eng\",\"selector\":\"4259225445\",\"text\":\"Some text\"}"
unfolding bits number_of read_number read_bytes read_decimal read_rest read_field read_rows read_page read_after read_items read_loop second_quarter third_quarter last_quarter shown_on_literals
data-broadcast-row = refl

-- 0x65, of biTStream
scrambling-row : compact_text (descr_shown (record { tag = 0x65; body = 0x01 ∷ [] }))
    ≡ codes "{\"#name\":\"scrambling_descriptor\",\"scrambling_mode\":1}"
unfolding bits number_of read_number read_bytes read_decimal read_rest read_field read_rows read_page read_after read_items read_loop second_quarter third_quarter last_quarter shown_on_literals
scrambling-row = refl

-- 0x66, of biTStream
data-broadcast-id-row : compact_text (descr_shown (record { tag = 0x66; body = 0x11 ∷ 0x22 ∷ 0x55 ∷ 0x4E ∷ 0x49 ∷ 0x58 ∷ [] }))
    ≡ codes "{\"#name\":\"data_broadcast_id_descriptor\",\"data_broadcast_id\":4386,\"id_selector\":\"554e4958\"}"
unfolding bits number_of read_number read_bytes read_decimal read_rest read_field read_rows read_page read_after read_items read_loop second_quarter third_quarter last_quarter shown_on_literals
data-broadcast-id-row = refl

-- 0x69, of libdvbpsi
pdc-row : compact_text (descr_shown (record { tag = 0x69; body = 0xF0 ∷ 0x99 ∷ 0x67 ∷ [] }))
    ≡ codes "{\"#name\":\"PDC_descriptor\",\"day\":1,\"hour\":5,\"minute\":39,\"month\":3}"
unfolding bits number_of read_number read_bytes read_decimal read_rest read_field read_rows read_page read_after read_items read_loop second_quarter third_quarter last_quarter shown_on_literals
pdc-row = refl

-- 0x69, of biTStream
pdc-row-2 : compact_text (descr_shown (record { tag = 0x69; body = 0xF5 ∷ 0xD8 ∷ 0x05 ∷ [] }))
    ≡ codes "{\"#name\":\"PDC_descriptor\",\"day\":11,\"hour\":0,\"minute\":5,\"month\":11}"
unfolding bits number_of read_number read_bytes read_decimal read_rest read_field read_rows read_page read_after read_items read_loop second_quarter third_quarter last_quarter shown_on_literals
pdc-row-2 = refl

-- 0x6A, of biTStream
ac3-row : compact_text (descr_shown (record { tag = 0x6A; body = 0xFF ∷ 0x0A ∷ 0x14 ∷ 0x1E ∷ 0x28 ∷ [] }))
    ≡ codes "{\"#name\":\"AC3_descriptor\",\"additional_info\":\"\",\"asvc\":40,\"asvc_flag\":true,\"bsid\":20,\"bsid_flag\":true,\"component_type\":10,\"component_type_flag\":true,\"mainid\":30,\"mainid_flag\":true,\"reserved\":15}"
unfolding bits number_of read_number read_bytes read_decimal read_rest read_field read_rows read_page read_after read_items read_loop read_grouped second_quarter third_quarter last_quarter shown_on_literals
ac3-row = refl

-- 0x6A, of DVBlast
ac3-row-2 : compact_text (descr_shown (record { tag = 0x6A; body = 0x00 ∷ [] }))
    ≡ codes "{\"#name\":\"AC3_descriptor\",\"additional_info\":\"\",\"asvc_flag\":false,\"bsid_flag\":false,\"component_type_flag\":false,\"mainid_flag\":false}"
unfolding bits number_of read_number read_bytes read_decimal read_rest read_field read_rows read_page read_after read_items read_loop read_grouped second_quarter third_quarter last_quarter shown_on_literals
ac3-row-2 = refl

-- 0x6B, of biTStream
ancillary-data-row : compact_text (descr_shown (record { tag = 0x6B; body = 0xD5 ∷ [] }))
    ≡ codes "{\"#name\":\"ancillary_data_descriptor\",\"ancillary_data_identifier\":213}"
unfolding bits number_of read_number read_bytes read_decimal read_rest read_field read_rows read_page read_after read_items read_loop second_quarter third_quarter last_quarter shown_on_literals
ancillary-data-row = refl

-- 0x6E, of biTStream
announcement-support-row : compact_text (descr_shown (record { tag = 0x6E; body = 0xFF ∷ 0x3D ∷ 0x08 ∷ 0x39 ∷ 0x11 ∷ 0x22 ∷ 0x33 ∷ 0x44 ∷ 0x55 ∷ 0x66 ∷ 0x77 ∷ 0x58 ∷ 0x2B ∷ 0x66 ∷ 0x77 ∷ 0x88 ∷ 0x99 ∷ 0x44 ∷ 0x55 ∷ 0x88 ∷ 0x48 ∷ [] }))
    ≡ codes "{\"#name\":\"announcement_support_descriptor\",\"#nodes\":[{\"#name\":\"announcement\",\"announcement_type\":0,\"reference_type\":0},{\"#name\":\"announcement\",\"announcement_type\":3,\"component_tag\":119,\"original_network_id\":4386,\"reference_type\":1,\"service_id\":21862,\"transport_stream_id\":13124},{\"#name\":\"announcement\",\"announcement_type\":5,\"reference_type\":0},{\"#name\":\"announcement\",\"announcement_type\":2,\"component_tag\":136,\"original_network_id\":26231,\"reference_type\":3,\"service_id\":17493,\"transport_stream_id\":34969},{\"#name\":\"announcement\",\"announcement_type\":4,\"reference_type\":0}],\"announcement_support_indicator\":65341}"
unfolding bits number_of read_number read_bytes read_decimal read_rest read_field read_rows read_item read_each read_formed second_quarter third_quarter last_quarter shown_on_literals
announcement-support-row = refl

-- 0x7A, of biTStream
enhanced-ac3-row : compact_text (descr_shown (record { tag = 0x7A; body = 0xFF ∷ 0x0A ∷ 0x14 ∷ 0x1E ∷ 0x28 ∷ 0x32 ∷ 0x3C ∷ 0x46 ∷ [] }))
    ≡ codes "{\"#name\":\"enhanced_AC3_descriptor\",\"additional_info\":\"\",\"asvc\":40,\"asvc_flag\":true,\"bsid\":20,\"bsid_flag\":true,\"component_type\":10,\"component_type_flag\":true,\"mainid\":30,\"mainid_flag\":true,\"mixinfoexists\":true,\"substream1\":50,\"substream1_flag\":true,\"substream2\":60,\"substream2_flag\":true,\"substream3\":70,\"substream3_flag\":true}"
unfolding bits number_of read_number read_bytes read_decimal read_rest read_field read_rows read_page read_after read_items read_loop read_grouped second_quarter third_quarter last_quarter shown_on_literals
enhanced-ac3-row = refl

-- 0x7B, of biTStream
dts-row : compact_text (descr_shown (record { tag = 0x7B; body = 0x82 ∷ 0xC2 ∷ 0x80 ∷ 0xBE ∷ 0x1E ∷ [] }))
    ≡ codes "{\"#name\":\"DTS_descriptor\",\"additional_info\":\"\",\"bit_rate_code\":11,\"extended_surround_flag\":2,\"fsize\":95,\"lfe_flag\":1,\"nblks\":5,\"sample_rate_code\":8,\"surround_mode\":3}"
unfolding bits number_of read_number read_bytes read_decimal read_rest read_field read_rows read_page read_after read_items read_loop second_quarter third_quarter last_quarter shown_on_literals
dts-row = refl

-- 0x7C, of biTStream
aac-row : compact_text (descr_shown (record { tag = 0x7C; body = 0x14 ∷ 0x80 ∷ 0x1F ∷ [] }))
    ≡ codes "{\"#name\":\"AAC_descriptor\",\"AAC_data\":\"801f\",\"profile_and_level\":20}"
unfolding bits number_of read_number read_bytes read_decimal read_rest read_field read_rows read_page read_after read_items read_loop second_quarter third_quarter last_quarter shown_on_literals
aac-row = refl

-- 0x7C, of libdvbpsi
aac-row-2 : compact_text (descr_shown (record { tag = 0x7C; body = 0x58 ∷ 0x80 ∷ 0x43 ∷ 0xCA ∷ 0xFE ∷ [] }))
    ≡ codes "{\"#name\":\"AAC_descriptor\",\"AAC_data\":\"8043cafe\",\"profile_and_level\":88}"
unfolding bits number_of read_number read_bytes read_decimal read_rest read_field read_rows read_page read_after read_items read_loop second_quarter third_quarter last_quarter shown_on_literals
aac-row-2 = refl

-- 0x83, of another multiplexer
logical-channel-row : compact_text (descr_shown (record { tag = 0x83; body = 0x03 ∷ 0x01 ∷ 0xFC ∷ 0x01 ∷ 0x03 ∷ 0x02 ∷ 0xFC ∷ 0x02 ∷ 0x03 ∷ 0x03 ∷ 0x7C ∷ 0x03 ∷ 0x03 ∷ 0x04 ∷ 0xFF ∷ 0xFF ∷ [] }))
    ≡ codes "{\"#name\":\"logical_channel_descriptor\",\"#nodes\":[{\"#name\":\"service\",\"logical_channel_number\":1,\"service_id\":769,\"visible_service\":true},{\"#name\":\"service\",\"logical_channel_number\":2,\"service_id\":770,\"visible_service\":true},{\"#name\":\"service\",\"logical_channel_number\":3,\"service_id\":771,\"visible_service\":false},{\"#name\":\"service\",\"logical_channel_number\":1023,\"service_id\":772,\"visible_service\":true}]}"
unfolding bits number_of read_number read_bytes read_decimal read_rest read_field read_rows read_page read_after read_items read_loop second_quarter third_quarter last_quarter shown_on_literals
logical-channel-row = refl

-- 0x88, of GStreamer
hd-simulcast-logical-channel-row : compact_text (descr_shown (record { tag = 0x88; body = 0x0F ∷ 0xFF ∷ 0xFC ∷ 0xFC ∷ [] }))
    ≡ codes "{\"#name\":\"HD_simulcast_logical_channel_descriptor\",\"#nodes\":[{\"#name\":\"service\",\"logical_channel_number\":252,\"service_id\":4095,\"visible_service\":true}]}"
unfolding bits number_of read_number read_bytes read_decimal read_rest read_field read_rows read_page read_after read_items read_loop second_quarter third_quarter last_quarter shown_on_literals
hd-simulcast-logical-channel-row = refl
