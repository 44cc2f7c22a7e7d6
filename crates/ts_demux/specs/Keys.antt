-- The keys of sections.
-- This project's own rule: sections of one table_id, extension and current_next_indicator are kept together.
use Rattle.std.specs.Prelude.{ℕ, ◌==◌, Bool, ◌&&◌, List, [], ◌∷◌, Option, Some, None, if◌then◌else◌}
use Rattle.std.specs.Bool.{beq}
use Rattle.ts_section.specs.SectionFields.{head_fields}
use Rattle.ts_section.specs.SectionRun.{stands_alone}
use Rattle.ts_section.specs.declared.long_head.LongHead.{LongHead}
use Rattle.ts_demux.specs.declared.table_key.TableKey.{TableKey}

-- the key of a section with this head
abbrev pub key_of_head : LongHead → TableKey
key_of_head head = record { table_id = head.table_id; extension = head.extension; current = head.current }

-- the key of a section of the long form
abbrev pub key_of : List ℕ → TableKey
key_of s = key_of_head (head_fields s)

-- the key of a table; a section that is a table by itself has none
abbrev pub key_of_table : List (List ℕ) → Option TableKey
key_of_table [] = None
key_of_table (s ∷ ss) = if stands_alone s then None else Some (key_of s)

-- whether two keys are equal
abbrev pub key_eq : TableKey → TableKey → Bool
key_eq a b = (a.table_id == b.table_id) && ((a.extension == b.extension) && beq a.current b.current)
