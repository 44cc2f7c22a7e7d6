-- Valid tables: those that sections and elements give.
-- This project's own rule: a table of a page is in the form in which it is kept, a table given by its bytes within the
-- bounds of its sections.
use Rattle.std.specs.Prelude.{◌≡◌, ℕ, ◌&&◌, List, length, Bool, true, false, nat_eq, nat_le, nat_lt, Option, Some, None}
use Rattle.std.specs.List.{list_all}
use Rattle.ts_fields.specs.Fitting.{are_bytes}
use Rattle.ts_jtree.specs.Shown.{are_within}
use Rattle.ts_table_rows.specs.TableFitting.{DescriptorsFit, table_fits}
use Rattle.ts_table_rows.specs.TablePages.{ItemPage, TablePage}
use Rattle.ts_table_rows.specs.TableValues.{ItemHolding, TableHolding}
use Rattle.ts_json_tables.specs.ElementRows.{is_eit_id}
use Rattle.ts_json_tables.specs.HeldTables.{ShortHolding, LongHolding, TableValue, laid, short, long}
use Rattle.ts_json_tables.specs.KnownPages.{page_named}
use Rattle.ts_json_tables.specs.TableElements.{shown_items}
use Rattle.ts_json_tables.specs.TableReading.{is_valid_count}
use Rattle.ts_json_tables.specs.RunTables.{settled_extension}

-- items in the ranges of their rows
abbrev pub items_within : Option ItemPage → List ItemHolding → Bool
items_within None items = true
items_within (Some i) items = list_all (λ x. are_within i.rows x.values) items

-- a table of a known page, in the form in which it is kept: an item with number 0, where one may stand, comes first
pub record IsLaid (p : TablePage) (t : TableHolding) : Type 0 where
  pub known : page_named p.name ≡ Some p
  pub fits : table_fits p t ≡ true
  pub extension : t.head.extension ≡ settled_extension p.extension t.head.extension
  pub within : items_within p.items (shown_items p.one_zero t.body.items) ≡ true

-- at most this many bytes
abbrev pub is_payload : ℕ → List ℕ → Bool
is_payload most row = nat_le (length row) most

-- a section of the short form within its bounds
abbrev pub is_short : ShortHolding → Bool
is_short s = nat_lt s.table_id 255 && is_payload 4093 s.payload

-- section numbers: in order, and kept for an EIT alone
abbrev pub numbers_kept : Bool → ℕ × ℕ → Bool
numbers_kept false n = nat_eq n.0 0 && nat_eq n.1 0
numbers_kept true n = nat_le n.0 n.1 && nat_lt n.1 256

-- sections of the long form within their bounds
abbrev pub is_long : LongHolding → Bool
is_long l =
    nat_lt l.version 32 && (nat_lt l.table_id 255 && (nat_lt l.extension 65536
    && (numbers_kept (is_eit_id l.table_id) l.numbers
    && (is_valid_count (is_eit_id l.table_id) (length l.payloads) && list_all (is_payload 4084) l.payloads))))

-- a valid table
abbrev pub IsTable : TableValue → Type 0
IsTable (laid p t) = IsLaid p t
IsTable (short s) = is_short s ≡ true
IsTable (long l) = is_long l ≡ true

-- its descriptors are valid, and its bytes are below 256
abbrev pub IsOfBytes : TableValue → Type 0
IsOfBytes (laid p t) = DescriptorsFit t.body
IsOfBytes (short s) = are_bytes s.payload ≡ true
IsOfBytes (long l) = list_all are_bytes l.payloads ≡ true
