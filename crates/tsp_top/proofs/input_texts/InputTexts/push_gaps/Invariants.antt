use Rattle.std.proofs.Common.{◌≡◌, ◌++◌, List, length, take, drop, filter}
use Rattle.std.specs.Prelude.{fold}
use Rattle.std.specs.String.{string_bytes}
use Rattle.chain_live.specs.LiveReports.{LiveLine}
use Rattle.chain_tells.specs.Waiting.{waiting}
use Rattle.search_source.specs.Gaps.{with_gap}
use Rattle.stage_run.specs.InputStands as stage
use Rattle.tsp_top.specs.InputRounds.{gap_rows, is_between, round_text}
use Rattle.tsp_top.proofs.input_texts.InputTexts.push_gaps.Given as goal

abbrev pub invariant-loop-gap : goal.invariant-loop-gap
invariant-loop-gap l = record {
  said : (later : List LiveLine) → string_bytes l.text ++ round_text l.initial.self.bare l.initial.self.items.now
      (gap_rows (stage.stuffing_of l.initial.self.stuffing) l.form l.span.from l.span.to (drop l.gap-index l.gaps) ++ later) (waiting l.lines)
      ≡ string_bytes l.initial.text ++ round_text l.initial.self.bare l.initial.self.items.now
      (gap_rows (stage.stuffing_of l.initial.self.stuffing) l.form l.span.from l.span.to l.gaps ++ later) (waiting l.initial.lines);
  counts : l.self.counts ≡ fold (with_gap l.form) l.initial.self.counts
      (filter (is_between (stage.stuffing_of l.initial.self.stuffing) l.span.from l.span.to) (take l.gap-index l.gaps));
  same : (l.self.bare ≡ l.initial.self.bare) × (l.self.stuffing ≡ l.initial.self.stuffing) × (l.self.items ≡ l.initial.self.items);
  rows : length l.lines.rows.items ≡ length l.initial.lines.rows.items;
}
