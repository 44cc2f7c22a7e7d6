-- What is kept of a row of keys, and what it means. This project's own rule.
use Rattle.std.specs.Prelude.{◌≡◌, ℕ, ◌<◌, ◌≤◌, List, [], ◌∷◌, ◌++◌, length, map}
use Rattle.std.specs.List.{AllPairs, slice_index_or}
use Rattle.ts_packet.specs.declared.cell.Cell.{Cell}
use Rattle.ts_packet.specs.Cells.{Live, live_packets}
use Rattle.monitor_keys.specs.declared.key.Key.{Key}
use Rattle.monitor_keys.specs.KeyState.{IsKey}
use Rattle.monitor_keys.specs.Named.{BeganAt, begun_at}
use Rattle.monitor_rows.specs.declared.key_row.KeyRow.{KeyRow}
use Rattle.monitor_rows.specs.declared.row_key.RowKey.{RowKey}
use Rattle.monitor_rows.specs.KeyRows.{RowRule, has_number, is_named, key_of, numbers_named}

-- a key stands for the cells of a history, and began, as the tables in force say, with some cells
pub record IsRowKey (rule : RowRule) (history cells : List Cell) (n : ℕ) (key : Key) : Type 0 where
  pub key_is : IsKey (begun_at (key_of rule n) key.from) key history
  pub began : BeganAt (is_named rule n) cells key.from

-- the numbers of keys
abbrev pub numbers_in : List RowKey → List ℕ
numbers_in keys = map (λ key. key.number) keys

-- the keys are those that are named after some cells, and stand for those of a history: the same cells, or one less
pub record HasKeys (rule : RowRule) (row : KeyRow) (history cells : List Cell) : Type 0 where
  pub limit_is : row.limit ≡ rule.limit
  pub numbers_are : numbers_in row.keys.items ≡ numbers_named rule (live_packets cells)
  pub each : (i : ℕ) (d : RowKey) → i < length row.keys.items
      → IsRowKey rule history cells (slice_index_or row.keys.items i d).number (slice_index_or row.keys.items i d).key

-- between two packets
abbrev pub IsRow : RowRule → KeyRow → List Cell → Type 0
IsRow rule row history = HasKeys rule row history history

-- these are the numbers of the keys that occur on a packet after a history
abbrev pub AreOccurring : RowRule → List Cell → List ℕ → List ℕ → Type 0
AreOccurring rule history packet occurred = (n : ℕ) → has_number occurred n ≡ rule.occurs (live_packets history) packet n

-- the tables in force name the same keys with a packet more
abbrev pub SameNames : RowRule → List Cell → List ℕ → Type 0
SameNames rule history packet =
    (n : ℕ) → n < rule.bound → rule.names (live_packets history ++ packet ∷ []) n ≡ rule.names (live_packets history) n

-- each number is below those after it
abbrev pub AreAscending : List ℕ → Type 0
AreAscending numbers = AllPairs (λ a b. a < b) numbers

-- the keys below a place have met a packet after a history, and no others
pub record MetBelow (rule : RowRule) (history : List Cell) (packet : List ℕ) (labels : ℕ) (old new : List RowKey) (bound : ℕ) : Type 0 where
  pub whole : length new ≡ length old
  pub same : (i : ℕ) (d : RowKey) → (slice_index_or new i d).number ≡ (slice_index_or old i d).number
  pub done : (i : ℕ) (d : RowKey) → i < bound
      → IsRowKey rule (history ++ Live packet labels ∷ []) (history ++ Live packet labels ∷ []) (slice_index_or new i d).number (slice_index_or new i d).key
  pub left : (i : ℕ) (d : RowKey) → bound ≤ i → slice_index_or new i d ≡ slice_index_or old i d
