-- The keys so far have the numbers so far, and stand for the cells.
use Rattle.std.proofs.Common.{◌≡◌, ◌<◌, ◌∷◌, ◌++◌, [], ℕ, List, length, take}
use Rattle.std.specs.List.{slice_index_or}
use Rattle.ts_packet.specs.declared.cell.Cell.{Cell}
use Rattle.ts_packet.specs.Cells.{Live, live_packets}
use Rattle.monitor_rows.specs.KeyRows.{RowRule, numbers_named}
use Rattle.monitor_rows.specs.RowStands.{IsRow, IsRowKey, numbers_in}
use Rattle.monitor_rows.specs.declared.row_key.RowKey.{RowKey}
use Rattle.monitor_rows.proofs.key_row.KeyRow.keys_of.Given as goal

abbrev pub invariant-loop-number : goal.invariant-loop-number
invariant-loop-number l =
    record {
      numbers : numbers_in l.keys.items ≡ take l.number-index l.numbers;
      each : (rule : RowRule) (history : List Cell) (packet : List ℕ) (labels : ℕ) → IsRow rule l.self history → l.at ≡ length history
          → l.numbers ≡ numbers_named rule (live_packets history ++ packet ∷ []) → (i : ℕ) (d : RowKey) → i < length l.keys.items
          → IsRowKey rule history (history ++ Live packet labels ∷ []) (slice_index_or l.keys.items i d).number (slice_index_or l.keys.items i d).key;
    }
