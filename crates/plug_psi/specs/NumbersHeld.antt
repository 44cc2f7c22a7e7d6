-- The numbers and bytes that the fields of a table, an item or a descriptor hold, by their index. This project's own rule.
use Rattle.std.specs.Prelude.{ℕ, List, [], slice_get, Option, Some, None}
use Rattle.ts_fields.specs.Layout.{Held, number, bytes}
use Rattle.ts_table_rows.specs.TableValues.{ItemHolding}

-- what a field holds as a number; 0 if it is not there or holds bytes
abbrev pub number_in : Option Held → ℕ
number_in None = 0
number_in (Some (number n)) = n
number_in (Some (bytes b)) = 0

-- the number at an index among the values, from 0; the fields of a layout are in the order of the layout
abbrev pub number_at : List Held → ℕ → ℕ
number_at values place = number_in (slice_get values place)

-- what a field holds as bytes; none if it is not there or holds a number
abbrev pub bytes_in : Option Held → List ℕ
bytes_in None = []
bytes_in (Some (number n)) = []
bytes_in (Some (bytes b)) = b

-- the bytes at an index among the values
abbrev pub bytes_at : List Held → ℕ → List ℕ
bytes_at values place = bytes_in (slice_get values place)

-- the elementary_PID of a component of a PMT, which comes after its stream_type (ISO/IEC 13818-1, 2.4.4.8)
abbrev pub component_pid : ItemHolding → ℕ
component_pid component = number_at component.values 1
