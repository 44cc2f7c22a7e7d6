use Rattle.std.proofs.Common.{◌≡◌, ◌++◌, ◌∷◌, List, length}
use Rattle.std.specs.String.{string_bytes}
use Rattle.chain_live.specs.LiveReports.{LiveLine}
use Rattle.chain_tells.specs.Waiting.{waiting}
use Rattle.stage_run.specs.InputStands as stage
use Rattle.tsp_top.specs.InputRounds.{round_text}
use Rattle.tsp_top.specs.LeftOut.{position_of}
use Rattle.tsp_top.proofs.told_texts.push_before.Given as goal

abbrev pub invariant-loop-at : goal.invariant-loop-at
invariant-loop-at l = record {
  said : (line : LiveLine) (later : List LiveLine) → line.at ≡ position_of (stage.stuffing_of l.stuffing) l.number
      → string_bytes l.text ++ round_text l.bare l.items (line ∷ later) (waiting l.lines) ≡ string_bytes l.initial.text ++ round_text l.bare l.items (line ∷ later) (waiting l.initial.lines);
  rows : length l.lines.rows.items ≡ length l.initial.lines.rows.items;
}

abbrev pub decreases-loop-at : goal.decreases-loop-at
decreases-loop-at l = length (waiting l.lines)
