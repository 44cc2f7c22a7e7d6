use Rattle.std.proofs.Common.{◌≡◌, ◌++◌, length}
use Rattle.std.specs.String.{string_bytes}
use Rattle.chain_tells.specs.Waiting.{waiting}
use Rattle.tsp_top.specs.Printing.{told_text}
use Rattle.tsp_top.proofs.told_texts.push_waiting.Given as goal

abbrev pub invariant-loop-told : goal.invariant-loop-told
invariant-loop-told l = record {
  said : string_bytes l.text ++ told_text l.bare l.items (waiting l.lines) ≡ string_bytes l.initial.text ++ told_text l.bare l.items (waiting l.initial.lines);
  rows : length l.lines.rows.items ≡ length l.initial.lines.rows.items;
}

abbrev pub decreases-loop-told : goal.decreases-loop-told
decreases-loop-told l = length (waiting l.lines)
