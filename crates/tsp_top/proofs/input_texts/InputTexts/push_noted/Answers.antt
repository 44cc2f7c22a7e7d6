use Rattle.std.proofs.Common.{◌≡◌, ◌++◌, ◌∙◌, List, [], ◌∷◌, Option, ap}
use Rattle.std.specs.Prelude.{option_to_list}
use Rattle.std.specs.String.{string_bytes}
use Rattle.chain_tells.specs.Waiting.{waiting}
use Rattle.packet_forms.specs.declared.forms.Form.{Form}
use Rattle.search_source.specs.declared.gap.Gap.{Gap}
use Rattle.stage_run.specs.InputStands as stage
use Rattle.tsp_top.specs.InputRounds.{gap_rows, noted_gaps, round_text}
use Rattle.tsp_top.proofs.TextRounds.{noted-said}
use Rattle.tsp_top.proofs.input_texts.InputTexts.push_noted.Goals as goal

pub returns-clause-said : goal.returns-clause-said
returns-clause-said g c =
    let first = c.args.self.now in
    let own = c.push_gaps.new.self in
    let same = c.push_gaps.ensures.same in
    let source = c.args.source.now in
    let stuffing = stage.stuffing_of first.stuffing in
    let from = c.args.span.from in
    let to = c.args.span.to in
    let gap : Gap = c.in-Some.gap in
    let all : c.gaps.result.now ++ (gap ∷ []) ≡ noted_gaps source =
    ap (λ (l : List Gap). l ++ (gap ∷ [])) c.gaps.ensures ∙ ap (λ (o : Option Gap). source.gaps.items ++ option_to_list o) c.in-Some.ensures in
    noted-said first.bare own.bare first.items.now own.items.now stuffing (stage.stuffing_of own.stuffing) c.form-form.result from to
    same.0 (ap (λ items. items.now) same.2) (ap stage.stuffing_of same.1)
    (string_bytes c.args.text.now) (string_bytes c.push_gaps.new.text) (string_bytes c.push_gap.new.text) (waiting c.args.lines.now) (waiting c.push_gaps.new.lines) (waiting c.push_gap.new.lines)
    c.gaps.result.now gap c.in_ok-push_gaps.ensures.said c.in_ok-push_gap.ensures.said
    ∙ ap (λ (f : Form). string_bytes c.args.text.now ++ round_text first.bare first.items.now (gap_rows stuffing f from to (c.gaps.result.now ++ (gap ∷ []))) (waiting c.args.lines.now)) c.form-form.ensures
    ∙ ap (λ (l : List Gap). string_bytes c.args.text.now ++ round_text first.bare first.items.now (gap_rows stuffing source.source.finder.form from to l) (waiting c.args.lines.now)) all
