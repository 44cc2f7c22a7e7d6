use Rattle.std.proofs.Common.{◌++◌, ◌∙◌, List, ℕ, ap, refl, sym}
use Rattle.std.specs.Prelude.{codes}
use Rattle.std.specs.String.{string_bytes}
use Rattle.chain_tells.specs.Waiting.{waiting}
use Rattle.stage_run.specs.InputStands as stage
use Rattle.tsp_top.specs.Printed.{gap_line, printed_line}
use Rattle.tsp_top.proofs.TextRounds.{gap-passed, gap-said, none-more, one-counted}
use Rattle.tsp_top.proofs.input_texts.InputTexts.push_gap.Goals as goal

pub returns-then-not-is_told-clause-said : goal.returns-then-not-is_told-clause-said
returns-then-not-is_told-clause-said c = λ later.
    let self = c.args.self.now in
    gap-passed self.bare self.items.now (stage.stuffing_of self.stuffing) c.args.form c.args.span.from c.args.span.to c.args.gap later (string_bytes c.args.text.now) (waiting c.args.lines.now)
    (sym c.is_told.ensures ∙ c.if-not-is_told.true)

pub returns-then-not-is_told-clause-counts : goal.returns-then-not-is_told-clause-counts
returns-then-not-is_told-clause-counts c =
    let self = c.args.self.now in
    none-more (stage.stuffing_of self.stuffing) c.args.form c.args.span.from c.args.span.to c.args.gap self.counts
    (sym c.is_told.ensures ∙ c.if-not-is_told.true)

pub returns-clause-said : goal.returns-clause-said
returns-clause-said c = λ later.
    let self = c.args.self.now in
    let stuffing = stage.stuffing_of self.stuffing in
    gap-said self.bare self.items.now stuffing c.args.form c.args.span.from c.args.span.to c.args.gap later
    (string_bytes c.args.text.now) (string_bytes c.push_before.new.text) (string_bytes c.push_input_line.new.text) (waiting c.args.lines.now) (waiting c.push_before.new.lines)
    (sym c.is_told.ensures ∙ c.if-not-is_told.false)
    (c.in_ok-push_before.ensures.said (gap_line stuffing c.args.form c.args.gap) later refl)
    (c.in_ok-push_input_line.ensures
    ∙ ap (λ (t : List ℕ). string_bytes c.push_before.new.text ++ printed_line self.bare 0 (codes "file") t) (c.as_str.ensures.value ∙ c.in_ok-line.ensures))

pub returns-clause-counts : goal.returns-clause-counts
returns-clause-counts c =
    let self = c.args.self.now in
    c.with-self.ensures
    ∙ one-counted (stage.stuffing_of self.stuffing) c.args.form c.args.span.from c.args.span.to c.args.gap self.counts
    (sym c.is_told.ensures ∙ c.if-not-is_told.false)
