-- What a TOT holds, and its bytes after section_length.
-- ETSI EN 300 468, 5.2.6: UTC_time, four reserved bits, descriptors after their number of bytes, and a CRC_32 over all
-- bytes of the section before it, though the section is of the short form.
use Rattle.std.specs.Prelude.{ℕ, ◌+◌, List, [], ◌∷◌, ◌++◌, length, map, Bool, true, false, bytes_eq, codes, if◌then◌else◌, Option, Some, None, Result, Ok, Err}
use Rattle.ts_bits.specs.DescriptorLoop.{descriptors_of}
use Rattle.ts_bits.specs.TaggedBody.{TaggedBody, loop_bytes}
use Rattle.ts_fields.specs.declared.field.Kind.TheVariants.{Reserved}
use Rattle.ts_fields.specs.Bits.{bits_of}
use Rattle.ts_fields.specs.Layout.{Held, Row, held}
use Rattle.ts_fields.specs.Reading.{read_bytes, read_number, read_rows, ◌>>=◌}
use Rattle.ts_fields.specs.Spelling.{spell_rows}
use Rattle.ts_pages.specs.PageRows.{field}
use Rattle.ts_section.specs.Crc.{crc_of}
use Rattle.ts_section.specs.WrittenSection.{first_three, four_bytes}
use Rattle.ts_table_rows.specs.BodySpelling.{bytes_of, spell_counted}
use Rattle.ts_json_tables.specs.declared.time_offset.TimeOffset.{TimeOffset}
use Rattle.ts_json_tables.specs.ShortPages.{time_row}

-- the table_id of a TOT
abbrev pub tot_id : ℕ
tot_id = 0x73

-- its fields
abbrev pub tot_rows : List Row
tot_rows = time_row ∷ field (codes "reserved") (Reserved 4) ∷ []

-- the values of its fields, and its descriptors
pub record OffsetHolding : Type 0 where
  pub values : List Held
  pub descriptors : List TaggedBody

-- the value of a TOT in the code
abbrev pub offset_held : TimeOffset → OffsetHolding
offset_held t = record { values = map held t.values.items; descriptors = t.descriptors }

-- the bits before the CRC, where the descriptors are given as bytes
unfoldable pub offset_bits : List Held → List ℕ → List Bool
offset_bits values row = spell_rows tot_rows values ++ spell_counted row

-- the bytes before the CRC
abbrev pub offset_front : OffsetHolding → List ℕ
offset_front t = bytes_of (offset_bits t.values (loop_bytes t.descriptors))

-- the CRC of a TOT with these bytes before it
unfoldable pub offset_crc : List ℕ → List ℕ
offset_crc front = four_bytes (crc_of (first_three tot_id false true (4 + length front) ++ front))

-- the bytes after section_length
abbrev pub offset_payload : OffsetHolding → List ℕ
offset_payload t = offset_front t ++ offset_crc (offset_front t)

-- descriptors that fill their bytes
abbrev pub whole_loop : Result (List TaggedBody) ℕ → Option (List TaggedBody)
whole_loop (Ok ds) = Some ds
whole_loop (Err offset) = None

-- the fields and the descriptors at the beginning of these bits, whatever follows them
unfoldable pub read_offsets : List Bool → Option OffsetHolding
read_offsets from = do
  values ← read_rows tot_rows from
  size ← read_number 12 values.1
  row ← read_bytes size.0 size.1
  ds ← whole_loop (descriptors_of row.0)
  Some (record { values = values.0; descriptors = ds })

-- a TOT with exactly these bytes, its CRC included
abbrev pub if_same : List ℕ → Option OffsetHolding → Option OffsetHolding
if_same payload None = None
if_same payload (Some t) = if bytes_eq (offset_payload t) payload then Some t else None

-- what a section with these bytes after section_length holds as a TOT; none where it is no TOT with a right CRC
abbrev pub tot_of : List ℕ → Option OffsetHolding
tot_of payload = if_same payload (read_offsets (bits_of payload))
