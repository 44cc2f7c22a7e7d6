-- Tables of transport streams.
-- ETSI EN 300 468, 5.2.2: a BAT has table_id 0x4A; ISO/IEC 13818-1, 2.4.4.5: a PAT has the transport_stream_id of its stream.
use Rattle.std.specs.Prelude.{ℕ, Bool, false, List, [], ◌∷◌, nat_eq, Option, Some, None, option_map}
use Rattle.ts_section.specs.SectionFields.{head_of}
use Rattle.ts_section.specs.declared.long_head.LongHead.{LongHead}
use Rattle.ts_table_rows.specs.TableValues.{TableHolding}

-- the transport_stream_id of a PAT
abbrev pub stream_of : Option TableHolding → Option ℕ
stream_of pat = option_map (λ table. table.head.extension) pat

-- whether a section has the head of a BAT
abbrev pub is_head_of_bat : Option LongHead → Bool
is_head_of_bat None = false
is_head_of_bat (Some head) = nat_eq head.table_id 0x4A

-- whether a table is one with the table_id of a BAT, whether it reads or not
abbrev pub is_bat : List (List ℕ) → Bool
is_bat [] = false
is_bat (section ∷ sections) = is_head_of_bat (head_of section)
