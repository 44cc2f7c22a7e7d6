-- A descriptor that an edit writes.
-- ISO/IEC 13818-1, 2.6: descriptor_length has eight bits, so a body has at most 255 bytes.
use Rattle.std.specs.Prelude.{nat_lt, if◌then◌else◌, Option, Some, None}
use Rattle.ts_bits.specs.TaggedBody.{TaggedBody}
use Rattle.ts_fields.specs.Bodies.{Page, Holding, spell_page}
use Rattle.ts_table_rows.specs.BodySpelling.{bytes_of}
use Rattle.ts_descr.specs.Descriptors.{body_size}

-- the descriptor of a page that holds this; none if its body would exceed 255 bytes
abbrev pub written : Page → Holding → Option TaggedBody
written p h =
    if nat_lt 255 (body_size p h) then None
    else Some (record { tag = p.tag; body = bytes_of (spell_page p h) })
