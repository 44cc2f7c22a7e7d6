-- The table of a run of sections, and the sections of a table.
-- This project's own rule: a run that reads as the table of its table_id is that table, with reserved numbers as ones
-- and the entry with number 0 first; any other is kept as the bytes of its bodies.
use Rattle.std.specs.Prelude.{ℕ, ◌+◌, ◌-◌, List, [], ◌∷◌, length, map, Bool, false, if◌then◌else◌, Option, Some, None, option_map, Result, Ok, Err}
use Rattle.ts_section.specs.declared.long_head.LongHead.{LongHead}
use Rattle.ts_section.specs.SectionFields.{body_of, current_of, extension_of, is_long, last_number_of, number_of, private_of, table_id_of, version_of}
use Rattle.ts_section.specs.WrittenSection.{long_section, short_section}
use Rattle.ts_table_rows.specs.declared.fault.TableRefusal.{TableRefusal}
use Rattle.ts_table_rows.specs.RunReading.{FirstBroken, read_run}
use Rattle.ts_table_rows.specs.TablePages.{TablePage}
use Rattle.ts_table_rows.specs.TableSections.{sections_of}
use Rattle.ts_table_rows.specs.TableValues.{ItemHolding, TableHolding}
use Rattle.ts_table_pages.specs.PatEntries.{is_network, ordered}
use Rattle.ts_json_tables.specs.ElementRows.{is_eit_id}
use Rattle.ts_json_tables.specs.HeldTables.{ShortHolding, LongHolding, TableValue, laid, short, long}
use Rattle.ts_json_tables.specs.KnownPages.{page_with_id}

-- table_id_extension; all ones where it is reserved
abbrev pub settled_extension : List ℕ → ℕ → ℕ
settled_extension [] extension = 0xFFFF
settled_extension (c ∷ cs) extension = extension

-- the items in the order in which they are kept
abbrev pub settled_items : Bool → List ItemHolding → List ItemHolding
settled_items one_zero items = if one_zero then ordered items else items

-- a table in the form in which it is kept
abbrev pub settled : TablePage → TableHolding → TableHolding
settled p t = record {
  head = record {
    table_id = t.head.table_id;
    extension = settled_extension p.extension t.head.extension;
    version = t.head.version;
    current = t.head.current;
    numbers = t.head.numbers;
  };
  body = record {
    values = t.body.values;
    descriptors = t.body.descriptors;
    items = settled_items p.one_zero t.body.items;
  };
}

-- the section numbers that are kept
abbrev pub kept_numbers : List ℕ → ℕ × ℕ
kept_numbers s = if is_eit_id (table_id_of s) then (number_of s, last_number_of s) else (0, 0)

-- sections of the long form, given by their bodies
abbrev pub long_of : List ℕ → List (List ℕ) → LongHolding
long_of s run = record {
  version = version_of s;
  current = current_of s;
  table_id = table_id_of s;
  extension = extension_of s;
  own = private_of s;
  numbers = kept_numbers s;
  payloads = map body_of run;
}

-- a section of the short form, given by its body
abbrev pub short_of : List ℕ → ShortHolding
short_of s = record { table_id = table_id_of s; own = private_of s; payload = body_of s }

-- the table of a run, given by its bytes
abbrev pub bytes_table : List (List ℕ) → TableValue
bytes_table [] = short (record { table_id = 0; own = false; payload = [] })
bytes_table (s ∷ ss) = if is_long s then long (long_of s (s ∷ ss)) else short (short_of s)

-- the table of a run that was read by a page
abbrev pub read_or_bytes : TablePage → Result TableHolding FirstBroken → List (List ℕ) → TableValue
read_or_bytes p (Ok t) run = laid p (settled p t)
read_or_bytes p (Err fault) run = bytes_table run

-- the table of a run whose table_id may have a page
abbrev pub table_by : Option TablePage → List (List ℕ) → TableValue
table_by None run = bytes_table run
table_by (Some p) run = read_or_bytes p (read_run p run) run

-- the table of a run
abbrev pub table_of_run : List (List ℕ) → TableValue
table_of_run [] = bytes_table []
table_of_run (s ∷ ss) = table_by (page_with_id (table_id_of s)) (s ∷ ss)

-- the head of a section of the long form
abbrev pub long_head : LongHolding → ℕ → ℕ → LongHead
long_head l last number = record {
  table_id = l.table_id;
  private = l.own;
  extension = l.extension;
  version = l.version;
  current = l.current;
  number = number;
  last = last;
}

-- sections with these bodies, numbered from a number on
unfoldable pub numbered : LongHolding → ℕ → ℕ → List (List ℕ) → List (List ℕ)
numbered l last number [] = []
numbered l last number (row ∷ rows) = long_section (long_head l last number) row ∷ numbered l last (number + 1) rows

-- the first number and the last: an EIT's own, or from 0
abbrev pub numbers_used : LongHolding → ℕ × ℕ
numbers_used l = if is_eit_id l.table_id then l.numbers else (0, length l.payloads - 1)

-- the sections of the long form of a table given by its bytes
abbrev pub long_sections : LongHolding → List (List ℕ)
long_sections l = numbered l (numbers_used l).1 (numbers_used l).0 l.payloads

-- the sections of a table, or why it has none
abbrev pub sections_of_table : TableValue → Result (List (List ℕ)) TableRefusal
sections_of_table (laid p t) = sections_of p t
sections_of_table (short s) = Ok (short_section s.table_id s.own s.payload ∷ [])
sections_of_table (long l) = Ok (long_sections l)

-- how many items come before the first with number 0, if there is one
unfoldable pub zero_place : List ItemHolding → Option ℕ
zero_place [] = None
zero_place (x ∷ xs) = if is_network x then Some 0 else option_map (λ n. n + 1) (zero_place xs)
