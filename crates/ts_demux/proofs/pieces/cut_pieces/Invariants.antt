-- What is cut off so far and what waits with what is left are the sections of all.
use Rattle.std.proofs.Common.{◌≡◌, ℕ, ◌-◌, ◌≤◌, ◌++◌, List, length, drop}
use Rattle.ts_demux.specs.SectionsOfParts.{sections_in}
use Rattle.ts_demux.proofs.pieces.cut_pieces.Given as goal

abbrev pub invariant-loop-size : goal.invariant-loop-size
invariant-loop-size l =
    record {
      within : l.at ≤ length l.bytes;
      sections : (more : List ℕ) → l.fn.waiting.items ++ sections_in (l.bytes ++ more) ≡ l.waiting.items ++ sections_in (drop l.at l.bytes ++ more);
      grows : length l.fn.waiting.items ≤ length l.waiting.items;
    }

abbrev pub decreases-loop-size : goal.decreases-loop-size
decreases-loop-size l = length l.bytes - l.at
