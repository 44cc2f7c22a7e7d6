use Rattle.std.proofs.Common.{◌≡◌, ◌≤◌, ◌-◌, ℕ, List, length}
use Rattle.ts_packet.specs.declared.cell.Cell.{Cell}
use Rattle.plug_info.specs.MetState.{HasMet}
use Rattle.plug_info.proofs.met_cells.MetCells.take_below.Given as goal

abbrev pub invariant-loop-self : goal.invariant-loop-self
invariant-loop-self l = record {
  met : (history : List Cell) (before : ℕ) → HasMet l.fn.self history before → before ≤ l.mark → l.mark ≤ length history
      → HasMet l.self history l.self.mark × (l.self.mark ≤ l.mark);
  reserved : l.self.waiting.capacity ≡ l.fn.self.waiting.capacity;
}

abbrev pub decreases-loop-self : goal.decreases-loop-self
decreases-loop-self l = l.mark - l.self.mark
