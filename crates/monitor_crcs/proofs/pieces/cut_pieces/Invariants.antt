-- What is cut off so far and what waits with what is left are the sections of all.
use Rattle.std.proofs.Common.{◌≡◌, ℕ, ◌-◌, ◌≤◌, ◌++◌, List, length, drop}
use Rattle.monitor_crcs.specs.WrongCrcs.{told_in}
use Rattle.monitor_crcs.proofs.pieces.cut_pieces.Given as goal

abbrev pub invariant-loop-size : goal.invariant-loop-size
invariant-loop-size l =
    record {
      within : l.at ≤ length l.bytes;
      told : (more : List ℕ) → l.fn.waiting.items ++ told_in (l.bytes ++ more) ≡ l.waiting.items ++ told_in (drop l.at l.bytes ++ more);
      grows : length l.fn.waiting.items ≤ length l.waiting.items;
    }

abbrev pub decreases-loop-size : goal.decreases-loop-size
decreases-loop-size l = length l.bytes - l.at
