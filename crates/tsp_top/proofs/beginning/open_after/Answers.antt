use Rattle.std.proofs.Common.{ap, subst, ◌≡◌, ◌∙◌}
use Rattle.search_source.specs.FileView.{of_either}
use Rattle.ts_outside.specs.Desk.{DeskView}
use Rattle.tsp_top.specs.Openings.{asked_input, asked_output, asked_output_in_vain, OpensOutput, input_closed_as}
use Rattle.tsp_top.proofs.SourceLemmas.{opened-unused}
use Rattle.tsp_top.proofs.CallLemmas.{no-output-theorem, no-memory-theorem, open-failed, open-no-memory}
use Rattle.tsp_top.proofs.beginning.open_after.Goals as goal

pub returns-in-Ok : goal.returns-in-Ok
returns-in-Ok g c = λ tables old ready asked opens. record {
  ready = ready;
  asked = c.in-Ok.ensures.asked ∙ ap (λ (d : DeskView). asked_output d c.args.plan.now.output) asked;
  input = opens;
  unused = opened-unused _ _ old c.args.plan.now.input c.args.input opens;
  output = subst (λ (d : DeskView). OpensOutput g.D.Out.Sink.seen d c.args.plan.now.output c.in-Ok.output) asked c.in-Ok.ensures.part;
}

pub returns-in-Err-Failed : goal.returns-in-Err-Failed
returns-in-Err-Failed g c = λ tables old ready asked opens.
    let vain : g.D.Desk.seen c.open_output.new.desk ≡ asked_output_in_vain (asked_input old c.args.plan.now.input) c.args.plan.now.output =
    open-failed _ _ _ c.in-Err-Failed.field-0 c.in-Err-Failed.field-0-is c.in-Err-Failed.ensures.asked ∙ ap (λ (d : DeskView). asked_output_in_vain d c.args.plan.now.output) asked in
    no-output-theorem _ _ c.args.plan.now tables old (g.D.Desk.seen c.close_input-kept.new.desk) (g.D.Desk.seen c.say.new.desk) c.args.input c.say.result
    opens c.in-Err-Failed.ensures.named
    (c.close_input-kept.ensures.closed ∙ ap (λ (d : DeskView). input_closed_as (of_either (λ placed. g.D.In.Source.seen placed.source) (λ found. g.D.In.Source.seen found.source.source)) d c.args.input) vain)
    c.say.ensures

pub returns : goal.returns
returns g c = λ tables old ready asked opens.
    let same : g.D.Desk.seen c.open_output.new.desk ≡ asked_input old c.args.plan.now.input =
    open-no-memory _ _ _ c.in-Err-NoMemory.field-0 c.in-Err-NoMemory.field-0-is c.in-Err-NoMemory.ensures.asked ∙ asked in
    no-memory-theorem _ _ c.args.plan.now tables old (g.D.Desk.seen c.close_input-kept-in-Err-NoMemory.new.desk) c.args.input
    opens (c.close_input-kept-in-Err-NoMemory.ensures.closed ∙ ap (λ (d : DeskView). input_closed_as (of_either (λ placed. g.D.In.Source.seen placed.source) (λ found. g.D.In.Source.seen found.source.source)) d c.args.input) same)
