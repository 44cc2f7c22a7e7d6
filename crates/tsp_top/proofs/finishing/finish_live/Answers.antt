use Rattle.std.proofs.Common.{is_err, ap, map, List, ◌∙◌, ◌||◌, refl, inl, inr}
use Rattle.chain_model.specs.Reports.{rules_of}
use Rattle.ts_outside.specs.Desk.{DeskView}
use Rattle.tsp_top.specs.ByPlugin.{by_plugin}
use Rattle.tsp_top.specs.Faults.{faults_from}
use Rattle.tsp_top.specs.Openings.{output_closed_as}
use Rattle.tsp_top.specs.PlannedChain.{named_rules, stuffing_of}
use Rattle.tsp_top.specs.LeftOut.{input_faulty}
use Rattle.tsp_top.specs.Printed.{reported_as, told_lines}
use Rattle.tsp_top.specs.Ran.{chain_over}
use Rattle.tsp_top.proofs.EndLemmas.{closed-live, closed-silent}
use Rattle.tsp_top.proofs.LeftLemmas.{live-out}
use Rattle.tsp_top.proofs.RunLemmas.{run-met, if-ok, on-err, on-true-is_err}
use Rattle.tsp_top.proofs.finishing.finish_live.Goals as goal

pub report_live-status-requires-clause-reach : goal.report_live-status-requires-clause-reach
report_live-status-requires-clause-reach g c κs within =
    rw c.deref_mut.ensures.value (if-ok c.args.run.end.closed c.in-Ok.closed _ c.in-Ok.is c.requires.reach)

pub returns-in-Ok : goal.returns-in-Ok
returns-in-Ok g c = λ tables stuffing numbers from plugins to opened own rules ends.
    let end = c.args.run.end in
    let closing = is_err c.close_output-closing.result in
    let general = c.args.plan.now.general in
    let ran = if-ok end.closed c.in-Ok.closed _ c.in-Ok.is (ends.run tables own) in
    let chain = chain_over c.args.plan.now tables ran.run.list in
    record {
      made_from = end.input;
      made_to = end.output;
      failed = closing;
      failed_opened = on-true-is_err c.close_output-closing.result _ c.close_output-closing.ensures.failed;
      kept = c.close_input-kept.result;
      through = c.close_input-kept.ensures.through;
      ends = inl (
        c.in-Ok.closed,
        record {
          made = end.plugins.items;
          run = ran.run;
          form = ran.form;
          gaps = ran.gaps;
          at = ran.at;
          told = λ live. ran.told;
          reported = live-out general (stuffing_of general) ran.form ran.gaps ran.at c.close_input-kept.result c.in-Ok.closed chain _ closing _ _ _ c.requires.live
              (λ left_out extends.
              closed-live _ _ end.input end.output closing c.is_err.result general
              (reported_as general left_out chain c.in-Ok.closed.cut c.in-Ok.closed.cause) (told_lines general left_out chain c.in-Ok.closed.cut)
              (input_faulty (stuffing_of general) left_out c.in-Ok.closed.cut c.in-Ok.closed.cause
              || faults_from (rules_of (named_rules c.args.plan.now.plugins tables)) ran.run.list c.in-Ok.closed.cut 0 (named_rules c.args.plan.now.plugins tables)) _ c.in-Ok.closed.cause
              chain c.in-Ok.closed.cut ran.form ran.gaps ran.at
              opened (g.D.Desk.seen c.args.desk.now) (g.D.Desk.seen c.close_output-closing.new.desk) (g.D.Desk.seen c.report_live-status.new.desk)
              c.args.run.printed.failed c.args.run.printed.whole c.args.run.printed.counts c.report_live-status.result
              c.is_err.ensures.value
              (c.close_output-closing.ensures.closed
              ∙ ap (λ (d : DeskView). output_closed_as g.D.Out.Sink.seen d end.output closing) c.close_input-kept.ensures.closed)
              ran.printed
              (λ first printed. c.report_live-status.ensures tables ran.run.list first ran.form ran.gaps ran.at left_out
              (ap (λ (l : List _). map (by_plugin g.P.Plugin.rule) l) c.deref_mut.ensures.value ∙ rules)
              (rw c.deref_mut.ensures.value (run-met _ _ from end.input stuffing plugins end.plugins.items to end.output numbers c.in-Ok.closed ran.run))
              ran.told.below extends printed));
        },
      );
    }

pub returns : goal.returns
returns g c = λ tables stuffing numbers from plugins to opened own rules ends.
    let end = c.args.run.end in
    let none = on-err end.closed c.in-Err.field-0 _ c.in-Err.is ends.never_began in
    let silent = on-err end.closed c.in-Err.field-0 _ c.in-Err.is ends.silent in
    record {
      made_from = end.input;
      made_to = end.output;
      failed = is_err c.close_output-closing.result;
      failed_opened = on-true-is_err c.close_output-closing.result _ c.close_output-closing.ensures.failed;
      kept = c.close_input-kept.result;
      through = c.close_input-kept.ensures.through;
      ends = inr (record {
        status_is = refl;
        input_same = none.input;
        output_same = none.output;
        desk = closed-silent _ _ end.input end.output (is_err c.close_output-closing.result) _ _ _
            (c.close_output-closing.ensures.closed
            ∙ ap (λ (d : DeskView). output_closed_as g.D.Out.Sink.seen d end.output (is_err c.close_output-closing.result)) c.close_input-kept.ensures.closed)
            silent;
      });
    }
