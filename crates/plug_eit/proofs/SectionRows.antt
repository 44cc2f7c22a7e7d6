-- Worked rows: whole sections, computed on the definitions.
use Rattle.std.proofs.Common.{◌≡◌, ℕ, true, false, List, [], ◌∷◌, None, Some, refl}
use Rattle.ts_bit_rows.specs.BitRow.{bit_of, field}
use Rattle.ts_bits.specs.DescriptorLoop.{descriptors_from}
use Rattle.ts_section.specs.Crc.{crc_of, divided_row, remainder}
use Rattle.ts_section.specs.WrittenSection.{long_section}
use Rattle.ts_fields.specs.Bits.{bits, number_of}
use Rattle.ts_fields.specs.Times.{is_pair, is_start, is_time}
use Rattle.ts_fields.specs.Reading.{read_bytes, read_decimal, read_field, read_number, read_rest, read_rows}
use Rattle.ts_fields.specs.Bodies as bodies
use Rattle.ts_fields.specs.Bodies.{read_page, spell_page}
use Rattle.ts_fields.specs.Spelling.{spell_decimal, spell_field, spell_rows}
use Rattle.ts_descr.specs.Descriptors.{read_typed}
use Rattle.ts_table_rows.specs.BodyReading as table_reading
use Rattle.ts_table_rows.specs.BodyReading.{read_body, read_fields, read_heading, read_loop}
use Rattle.ts_table_rows.specs.BodySpelling.{bytes_of, spell_counted, spell_item, spell_parts}
use Rattle.ts_table_rows.specs.RunReading.{read_run, read_section, read_sections}
use Rattle.ts_table_rows.specs.TableSections.{body_rows, numbered, sections_of}
use Rattle.named_services.specs.declared.service_word.ServiceWord.TheVariants.{Number}
use Rattle.plug_eit.specs.EitEdit.{changed_section, edited_section}
use Rattle.plug_eit.specs.TextCut.{cut_text, end_from}
use Rattle.plug_eit.specs.declared.eit_conf.EitConf.{EitConf}

-- settings that name the event 3 of service 7, and such that remove it
abbrev naming : EitConf
naming = record { service = Number 7; event = Some 3; name = Some (0x4E ∷ 0x65 ∷ 0x77 ∷ []); text = None; shift = None; running_status = None; free_ca_mode = None; remove = false }

abbrev removing_one : EitConf
removing_one = record { service = Number 7; event = Some 3; name = None; text = None; shift = None; running_status = None; free_ca_mode = None; remove = true }

-- a section that has two bytes too few for the head of its body: it does not read, and is given as it came
abbrev short : List ℕ
short = 0x4E ∷ 0xF0 ∷ 0x0D ∷ 0x00 ∷ 0x07 ∷ 0xC1 ∷ 0x00 ∷ 0x00 ∷ 0x00 ∷ 0x01 ∷ 0x00 ∷ 0x02 ∷ 0x11 ∷ 0x22 ∷ 0x33 ∷ 0x44 ∷ []

unread-stays : edited_section naming (Some 7) short ≡ Some short
unfolding edited_section changed_section read_run read_sections read_section read_body read_heading read_fields read_loop table_reading.read_after table_reading.read_items table_reading.read_next table_reading.read_item table_reading.read_described table_reading.read_counted table_reading.read_counted_loop descriptors_from bits number_of read_number read_bytes read_rest read_decimal read_field is_pair is_time is_start field bit_of
unread-stays = refl

-- service 7 with the events 3 and 4, without descriptors
abbrev both : List ℕ
both = 0x4E ∷ 0xF0 ∷ 0x27 ∷ 0x00 ∷ 0x07 ∷ 0xC1 ∷ 0x00 ∷ 0x00 ∷ 0x00 ∷ 0x01 ∷ 0x00 ∷ 0x02 ∷ 0x00 ∷ 0x4E ∷ 0x00 ∷ 0x03 ∷ 0xC0 ∷ 0x79 ∷ 0x12 ∷ 0x45 ∷ 0x00 ∷ 0x01 ∷ 0x45 ∷ 0x30 ∷ 0x80 ∷ 0x00 ∷ 0x00 ∷ 0x04 ∷ 0xC0 ∷ 0x79 ∷ 0x12 ∷ 0x45 ∷ 0x00 ∷ 0x01 ∷ 0x45 ∷ 0x30 ∷ 0x80 ∷ 0x00 ∷ 0xFA ∷ 0x62 ∷ 0x64 ∷ 0x0A ∷ []

-- the same with the event 4 alone: a smaller section_length, and a CRC of its own
abbrev other : List ℕ
other = 0x4E ∷ 0xF0 ∷ 0x1B ∷ 0x00 ∷ 0x07 ∷ 0xC1 ∷ 0x00 ∷ 0x00 ∷ 0x00 ∷ 0x01 ∷ 0x00 ∷ 0x02 ∷ 0x00 ∷ 0x4E ∷ 0x00 ∷ 0x04 ∷ 0xC0 ∷ 0x79 ∷ 0x12 ∷ 0x45 ∷ 0x00 ∷ 0x01 ∷ 0x45 ∷ 0x30 ∷ 0x80 ∷ 0x00 ∷ 0x21 ∷ 0x34 ∷ 0xE4 ∷ 0xB6 ∷ []

one-removed : edited_section removing_one (Some 7) both ≡ Some other
unfolding edited_section changed_section read_run read_sections read_section read_body read_heading read_fields read_loop table_reading.read_after table_reading.read_items table_reading.read_next table_reading.read_item table_reading.read_described table_reading.read_counted table_reading.read_counted_loop descriptors_from bits number_of read_number read_bytes read_rest read_decimal read_field is_pair is_time is_start field bit_of sections_of body_rows numbered long_section crc_of divided_row remainder bytes_of spell_counted spell_item spell_parts spell_decimal spell_field spell_rows
one-removed = refl

-- service 7 with the event 3, whose short_event_descriptor has the name `Ol` and the text `abc`
abbrev named : List ℕ
named = 0x4E ∷ 0xF0 ∷ 0x27 ∷ 0x00 ∷ 0x07 ∷ 0xC1 ∷ 0x00 ∷ 0x00 ∷ 0x00 ∷ 0x01 ∷ 0x00 ∷ 0x02 ∷ 0x00 ∷ 0x4E ∷ 0x00 ∷ 0x03 ∷ 0xC0 ∷ 0x79 ∷ 0x12 ∷ 0x45 ∷ 0x00 ∷ 0x01 ∷ 0x45 ∷ 0x30 ∷ 0x80 ∷ 0x0C ∷ 0x4D ∷ 0x0A ∷ 0x65 ∷ 0x6E ∷ 0x67 ∷ 0x02 ∷ 0x4F ∷ 0x6C ∷ 0x03 ∷ 0x61 ∷ 0x62 ∷ 0x63 ∷ 0x84 ∷ 0x23 ∷ 0x05 ∷ 0xC5 ∷ []

-- the same with the name `New`, for which its text was cut by a letter
abbrev renamed : List ℕ
renamed = 0x4E ∷ 0xF0 ∷ 0x27 ∷ 0x00 ∷ 0x07 ∷ 0xC1 ∷ 0x00 ∷ 0x00 ∷ 0x00 ∷ 0x01 ∷ 0x00 ∷ 0x02 ∷ 0x00 ∷ 0x4E ∷ 0x00 ∷ 0x03 ∷ 0xC0 ∷ 0x79 ∷ 0x12 ∷ 0x45 ∷ 0x00 ∷ 0x01 ∷ 0x45 ∷ 0x30 ∷ 0x80 ∷ 0x0C ∷ 0x4D ∷ 0x0A ∷ 0x65 ∷ 0x6E ∷ 0x67 ∷ 0x03 ∷ 0x4E ∷ 0x65 ∷ 0x77 ∷ 0x02 ∷ 0x61 ∷ 0x62 ∷ 0x51 ∷ 0xDE ∷ 0xB1 ∷ 0xE8 ∷ []

new-name : edited_section naming (Some 7) named ≡ Some renamed
unfolding edited_section changed_section read_run read_sections read_section read_body read_heading read_fields read_loop table_reading.read_after table_reading.read_items table_reading.read_next table_reading.read_item table_reading.read_described table_reading.read_counted table_reading.read_counted_loop descriptors_from bits number_of read_number read_bytes read_rest read_decimal read_field is_pair is_time is_start field bit_of sections_of body_rows numbered long_section crc_of divided_row remainder bytes_of spell_counted spell_item spell_parts spell_decimal spell_field spell_rows read_typed read_rows read_page bodies.read_after bodies.read_items bodies.read_loop spell_page cut_text end_from
new-name = refl
