-- Worked rows: the definitions computed. The bytes but for the spoiled ones are of streams of biTStream
-- (tests/data/bits_si.ts) and, with the private bit 0, of libdvbpsi (tests/data/dvbpsi_si.ts).
use Rattle.std.proofs.Common.{◌≡◌, ◌∷◌, [], true, false, refl}
use Rattle.std.specs.Prelude.{codes}
use Rattle.serde_json.specs.Written.{compact_text}
use Rattle.ts_bit_rows.specs.BitRow.{bit_of, field}
use Rattle.ts_bits.specs.DescriptorLoop.{descriptors_from}
use Rattle.ts_days.specs.Calendar.{day_of_month, day_of_year}
use Rattle.ts_days.specs.DayTexts.{day_text}
use Rattle.ts_days.specs.TimeTexts.{start_text, time_text}
use Rattle.ts_fields.specs.Bits.{bits, number_of}
use Rattle.ts_fields.specs.Bodies.{read_page, read_after, read_items}
use Rattle.ts_fields.specs.Reading.{read_number, read_bytes, read_field, read_rows}
use Rattle.ts_fields.specs.Spelling.{spell_field, spell_rows}
use Rattle.ts_fields.specs.Times.{is_pair, is_start, is_time}
use Rattle.ts_jtree.proofs.OnLiterals.{shown_on_literals}
use Rattle.ts_section.specs.Crc.{crc_of, divided_row, remainder}
use Rattle.ts_table_rows.specs.BodySpelling.{bytes_of, spell_counted}
use Rattle.ts_json_tables.specs.HeldTables.{short}
use Rattle.ts_json_tables.specs.TableElements.{table_shown}
use Rattle.ts_json_tables.specs.TimeOffsets.{offset_bits, offset_crc, read_offsets}

tdt-row : compact_text (table_shown (short (record { table_id = 0x70; own = true; payload = 0xD6 ∷ 0x5B ∷ 0x23 ∷ 0x31 ∷ 0x30 ∷ [] })))
    ≡ codes "{\"#name\":\"TDT\",\"UTC_time\":\"2009-02-13 23:31:30\"}"
unfolding bits number_of read_number read_field read_rows read_page read_after shown_on_literals is_start is_time is_pair start_text day_text day_of_year day_of_month time_text
tdt-row = refl

private-row : compact_text (table_shown (short (record { table_id = 0x70; own = false; payload = 0xD6 ∷ 0x5B ∷ 0x23 ∷ 0x31 ∷ 0x30 ∷ [] })))
    ≡ codes "{\"#name\":\"generic_short_table\",\"payload\":\"d65b233130\",\"private\":false,\"table_id\":112}"
unfolding shown_on_literals
private-row = refl

rst-row : compact_text (table_shown (short (record { table_id = 0x71; own = true; payload = 0x27 ∷ 0x10 ∷ 0x9C ∷ 0x40 ∷ 0x4E ∷ 0x20 ∷ 0x75 ∷ 0x30 ∷ 0xF9 ∷ [] })))
    ≡ codes "{\"#name\":\"RST\",\"#nodes\":[{\"#name\":\"event\",\"event_id\":30000,\"original_network_id\":40000,\"running_status\":1,\"service_id\":20000,\"transport_stream_id\":10000}]}"
unfolding bits number_of read_number read_field read_rows read_page read_after read_items shown_on_literals
rst-row = refl

tot-row : compact_text (table_shown (short (record { table_id = 0x73; own = true; payload = 0xD6 ∷ 0x5B ∷ 0x23 ∷ 0x31 ∷ 0x30 ∷ 0xF0 ∷ 0x00 ∷ 0x0E ∷ 0x81 ∷ 0x0A ∷ 0xDD ∷ [] })))
    ≡ codes "{\"#name\":\"TOT\",\"#nodes\":[],\"UTC_time\":\"2009-02-13 23:31:30\"}"
unfolding bits number_of read_number read_bytes read_field read_rows spell_field spell_rows spell_counted bytes_of read_offsets offset_bits offset_crc descriptors_from crc_of divided_row remainder field bit_of shown_on_literals is_start is_time is_pair start_text day_text day_of_year day_of_month time_text
tot-row = refl

-- the same with a wrong CRC
crc-row : compact_text (table_shown (short (record { table_id = 0x73; own = true; payload = 0xD6 ∷ 0x5B ∷ 0x23 ∷ 0x31 ∷ 0x30 ∷ 0xF0 ∷ 0x00 ∷ 0x0E ∷ 0x81 ∷ 0x0A ∷ 0xDC ∷ [] })))
    ≡ codes "{\"#name\":\"generic_short_table\",\"payload\":\"d65b233130f0000e810adc\",\"private\":true,\"table_id\":115}"
unfolding bits number_of read_number read_bytes read_field read_rows spell_field spell_rows spell_counted bytes_of read_offsets offset_bits offset_crc descriptors_from crc_of divided_row remainder field bit_of shown_on_literals is_start is_time is_pair
crc-row = refl
