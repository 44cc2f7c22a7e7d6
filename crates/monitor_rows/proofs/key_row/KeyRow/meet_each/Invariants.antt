-- The keys so far have met the packet, and what is told of them is in the list.
use Rattle.std.proofs.Common.{◌≡◌, ◌∷◌, ◌++◌, [], ℕ, List, length, take}
use Rattle.std.specs.List.{flat_map}
use Rattle.ts_packet.specs.declared.cell.Cell.{Cell}
use Rattle.ts_packet.specs.Cells.{Live}
use Rattle.monitor_keys.specs.Keys.{span_on}
use Rattle.monitor_rows.specs.KeyRows.{RowRule, row_gap}
use Rattle.monitor_rows.specs.RowStands.{AreOccurring, HasKeys, MetBelow, numbers_in}
use Rattle.monitor_rows.proofs.key_row.KeyRow.meet_each.Given as goal

abbrev pub invariant-loop-i : goal.invariant-loop-i
invariant-loop-i l =
    record {
      limit : l.self.limit ≡ l.fn.self.limit;
      whole : length l.self.keys.items ≡ length l.fn.self.keys.items;
      met : (rule : RowRule) (history : List Cell) (packet : List ℕ) (labels : ℕ) → HasKeys rule l.fn.self history (history ++ Live packet labels ∷ [])
          → l.span ≡ span_on rule.pcr_pid history packet → AreOccurring rule history packet l.occurred
          → MetBelow rule history packet labels l.fn.self.keys.items l.self.keys.items l.i;
      tells : (rule : RowRule) (history : List Cell) (packet : List ℕ) (labels : ℕ) → HasKeys rule l.fn.self history (history ++ Live packet labels ∷ [])
          → l.span ≡ span_on rule.pcr_pid history packet → AreOccurring rule history packet l.occurred
          → l.told.items ≡ flat_map (row_gap rule history packet) (take l.i (numbers_in l.fn.self.keys.items));
    }
