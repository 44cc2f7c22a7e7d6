use Rattle.std.proofs.Common.{◌≡◌, true, false, is_err, ap, map, List, [], ◌∙◌, ◌++◌, ◌||◌, sym, refl, inl, inr}
use Rattle.plugin_settings.specs.declared.plugin_item.PluginItem.{PluginItem}
use Rattle.chain_model.specs.Reports.{rules_of}
use Rattle.ts_outside.specs.Desk.{DeskView}
use Rattle.tsp_top.specs.ByPlugin.{by_plugin}
use Rattle.tsp_top.specs.LeftOut.{input_faulty, kept_out}
use Rattle.tsp_top.specs.PlannedChain.{named_rules, stuffing_of}
use Rattle.tsp_top.specs.Faults.{faults_from}
use Rattle.tsp_top.specs.Printed.{input_printed, reports_asked}
use Rattle.tsp_top.specs.Openings.{output_closed_as}
use Rattle.tsp_top.specs.Ran.{chain_over}
use Rattle.packet_forms.specs.declared.forms.Form.TheVariants.{Ts}
use Rattle.tsp_top.proofs.EndLemmas.{asked-plain}
use Rattle.tsp_top.proofs.LeftLemmas.{plain-out}
use Rattle.tsp_top.proofs.RunLemmas.{run-met, if-ok, on-err, on-true-is_err, reports-run-same}
use Rattle.tsp_top.proofs.finishing.finish.Goals as goal

pub report_run-status-requires-clause-reach : goal.report_run-status-requires-clause-reach
report_run-status-requires-clause-reach g c κs within =
    rw c.deref_mut.ensures.value (if-ok c.args.end.closed c.in-Ok.closed _ c.in-Ok.is c.requires.reach)

pub returns-in-Ok : goal.returns-in-Ok
returns-in-Ok g c = λ tables stuffing numbers from plugins to rules ends.
    let run = if-ok c.args.end.closed c.in-Ok.closed _ c.in-Ok.is ends.run in
    record {
      made_from = c.args.end.input;
      made_to = c.args.end.output;
      failed = is_err c.close_output-closing.result;
      failed_opened = on-true-is_err c.close_output-closing.result _ c.close_output-closing.ensures.failed;
      kept = c.close_input-kept.result;
      through = c.close_input-kept.ensures.through;
      ends = inl (
        c.in-Ok.closed,
        record {
          made = c.args.end.plugins.items;
          run = run;
          form = Ts;
          gaps = [];
          at = 0;
          told = λ live. absurd (let e : true ≡ false = sym live ∙ c.requires.plain in cc);
          reported = plain-out c.args.plan.now.general (stuffing_of c.args.plan.now.general) Ts [] 0 c.close_input-kept.result c.in-Ok.closed (chain_over c.args.plan.now tables run.list)
              _ (is_err c.close_output-closing.result) _ _ _ c.requires.plain
              (asked-plain c.args.plan.now.general (kept_out c.close_input-kept.result) (chain_over c.args.plan.now tables run.list) c.in-Ok.closed.cut c.in-Ok.closed.cause _ _ _ (is_err c.close_output-closing.result) _ _ _ c.requires.plain
              (reports-run-same c.args.plan.now.general _ _ _ _ _ c.in-Ok.closed.cause c.is_err.result (is_err c.close_output-closing.result) (g.D.Desk.seen c.close_output-closing.new.desk) _ _ _
              (ap (λ (items : List PluginItem). input_printed c.args.plan.now.general.bare (stuffing_of c.args.plan.now.general) (kept_out c.close_input-kept.result) c.in-Ok.closed.cut c.in-Ok.closed.cause
              ++ reports_asked c.args.plan.now.general (named_rules items tables) run.list c.in-Ok.closed.cut c.in-Ok.closed.cause) c.as_slice.ensures)
              (ap (λ (items : List PluginItem). input_faulty (stuffing_of c.args.plan.now.general) (kept_out c.close_input-kept.result) c.in-Ok.closed.cut c.in-Ok.closed.cause
              || faults_from (rules_of (named_rules items tables)) run.list c.in-Ok.closed.cut 0 (named_rules items tables)) c.as_slice.ensures)
              c.is_err.ensures.value
              (c.close_output-closing.ensures.closed
              ∙ ap (λ (d : DeskView). output_closed_as g.D.Out.Sink.seen d c.args.end.output (is_err c.close_output-closing.result)) c.close_input-kept.ensures.closed)
              (c.report_run-status.ensures tables run.list
              (ap (λ (l : List _). map (by_plugin g.P.Plugin.rule) l) c.deref_mut.ensures.value ∙ rules ∙ ap (λ (items : List PluginItem). rules_of (named_rules items tables)) (sym c.as_slice.ensures))
              (rw c.deref_mut.ensures.value (run-met _ _ from c.args.end.input stuffing plugins c.args.end.plugins.items to c.args.end.output numbers c.in-Ok.closed run)))));
        },
      );
    }

pub returns : goal.returns
returns g c = λ tables stuffing numbers from plugins to rules ends.
    let none = on-err c.args.end.closed c.in-Err.field-0 _ c.in-Err.is ends.never_began in
    record {
      made_from = c.args.end.input;
      made_to = c.args.end.output;
      failed = is_err c.close_output-closing.result;
      failed_opened = on-true-is_err c.close_output-closing.result _ c.close_output-closing.ensures.failed;
      kept = c.close_input-kept.result;
      through = c.close_input-kept.ensures.through;
      ends = inr (record {
        status_is = refl;
        input_same = none.input;
        output_same = none.output;
        desk = c.close_output-closing.ensures.closed
            ∙ ap (λ (d : DeskView). output_closed_as g.D.Out.Sink.seen d c.args.end.output (is_err c.close_output-closing.result)) c.close_input-kept.ensures.closed;
      });
    }
