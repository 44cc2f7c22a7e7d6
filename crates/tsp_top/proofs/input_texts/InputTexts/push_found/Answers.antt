use Rattle.std.proofs.Common.{ap}
use Rattle.std.specs.String.{string_bytes}
use Rattle.chain_tells.specs.Waiting.{waiting}
use Rattle.stage_run.specs.InputStands as stage
use Rattle.tsp_top.specs.InputRounds.{gap_rows, noted_gaps}
use Rattle.tsp_top.proofs.TextRounds.{round-said}
use Rattle.tsp_top.proofs.input_texts.InputTexts.push_found.Goals as goal

pub returns-clause-said : goal.returns-clause-said
returns-clause-said g c =
    let first = c.args.self.now in
    let own = c.push_noted.new.self in
    let same = c.push_noted.ensures.same in
    round-said first.bare own.bare first.items.now own.items.now (string_bytes c.args.text.now) (string_bytes c.push_noted.new.text) (string_bytes c.push_waiting.new.text)
    (gap_rows (stage.stuffing_of first.stuffing) c.args.source.now.source.finder.form c.args.span.from c.args.span.to (noted_gaps c.args.source.now))
    (waiting c.args.lines.now) (waiting c.push_noted.new.lines) same.0 (ap (λ items. items.now) same.2)
    c.in_ok-push_noted.ensures.said c.in_ok-push_waiting.ensures.said
