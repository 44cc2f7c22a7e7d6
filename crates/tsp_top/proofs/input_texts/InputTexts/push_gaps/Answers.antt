use Rattle.std.proofs.Common.{◌∙◌, ap, refl}
use Rattle.std.specs.String.{string_bytes}
use Rattle.chain_tells.specs.Waiting.{waiting}
use Rattle.stage_run.specs.InputStands as stage
use Rattle.tsp_top.proofs.TextRounds.{all-gaps, all-gaps-counted, more-counted, more-said}
use Rattle.tsp_top.proofs.input_texts.InputTexts.push_gaps.Goals as goal

pub loop-gap-preserved : goal.loop-gap-preserved
loop-gap-preserved c =
    let first = c.args.self.now in
    let own = c.loop-gap.self in
    let same = c.loop-gap.invariant.same in
    let step = c.in_ok-push_gap.ensures in
    record {
      said = λ later. more-said first.bare own.bare first.items.now own.items.now (stage.stuffing_of first.stuffing) (stage.stuffing_of own.stuffing) c.args.form c.args.span.from c.args.span.to
          same.0 (ap (λ items. items.now) same.2) (ap stage.stuffing_of same.1)
          c.args.gaps.now c.loop-gap.gap-index _ _ _ (string_bytes c.loop-gap.text) (string_bytes c.push_gap.new.text) (waiting c.loop-gap.lines) (waiting c.push_gap.new.lines) later
          c.loop-gap-test.true refl step.said (c.loop-gap.invariant.said later);
      counts = more-counted first.bare own.bare first.items.now own.items.now (stage.stuffing_of first.stuffing) (stage.stuffing_of own.stuffing) c.args.form c.args.span.from c.args.span.to
          same.0 (ap (λ items. items.now) same.2) (ap stage.stuffing_of same.1)
          c.args.gaps.now c.loop-gap.gap-index _ _ first.counts own.counts c.push_gap.new.self.counts c.loop-gap-test.true refl c.loop-gap.invariant.counts step.counts;
      same = (c.push_gap.ensures.same.0 ∙ same.0, c.push_gap.ensures.same.1 ∙ same.1, c.push_gap.ensures.same.2 ∙ same.2);
      rows = c.push_gap.ensures.rows ∙ c.loop-gap.invariant.rows;
    }

pub returns-clause-said : goal.returns-clause-said
returns-clause-said c = λ later.
    let first = c.args.self.now in
    all-gaps first.bare first.items.now (stage.stuffing_of first.stuffing) c.args.form c.args.span.from c.args.span.to c.args.gaps.now c.loop-gap.gap-index _
    (string_bytes c.loop-gap.text) (waiting c.loop-gap.lines) later c.loop-gap-test.false (c.loop-gap.invariant.said later)

pub returns-clause-counts : goal.returns-clause-counts
returns-clause-counts c =
    let first = c.args.self.now in
    all-gaps-counted (stage.stuffing_of first.stuffing) c.args.form c.args.span.from c.args.span.to c.args.gaps.now c.loop-gap.gap-index first.counts c.loop-gap.self.counts
    c.loop-gap-test.false c.loop-gap.invariant.counts
