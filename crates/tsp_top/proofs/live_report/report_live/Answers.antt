use Rattle.std.proofs.Common.{Bool, true, false, not, ◌≡◌, ◌++◌, ◌||◌, List, [], map, inl, inr, refl, ap, sym, subst, ◌∙◌, if◌then◌else◌}
use Rattle.chain_model.specs.PluginRule.{PluginRule}
use Rattle.chain_model.specs.Reports.{end_line, rules_of}
use Rattle.chain_run.specs.Met.{AllMetTo}
use Rattle.plugin_settings.specs.declared.plugin_item.PluginItem.{PluginItem}
use Rattle.tsp_top.specs.ByPlugin.{by_plugin}
use Rattle.tsp_top.specs.Faults.{faults_from}
use Rattle.tsp_top.specs.InputRounds.{rest_faulty, rest_printed}
use Rattle.tsp_top.specs.LiveEnds.{plugin_stands}
use Rattle.tsp_top.specs.PlannedChain.{named_rules}
use Rattle.tsp_top.specs.Printed.{summaries_printed}
use Rattle.tsp_top.specs.Ran.{chain_over}
use Rattle.tsp_top.proofs.RestLemmas.{live-reported, stands-live}
use Rattle.tsp_top.proofs.live_report.report_live.Goals as goal

is-whole : (whole : Bool) → not whole ≡ false → whole ≡ true
is-whole true e = refl
is-whole false e = absurd cc

pub returns-then-not-printed : goal.returns-then-not-printed
returns-then-not-printed g c = λ tables input first form gaps at left_out same met below extends printed.
    inr (
      refl,
      stands-live c.args.plan.now.general form gaps at c.args.kept.now c.args.closed.cause left_out (chain_over c.args.plan.now tables input) c.args.closed.cut
          first (g.D.Desk.seen c.args.desk.now) c.args.printed.failed c.args.printed.whole c.args.printed.counts c.requires.live below extends printed,
    )

pub returns-in-Ok : goal.returns-in-Ok
returns-in-Ok g c = λ tables input first form gaps at left_out same met below extends printed.
    let plan = c.args.plan.now in
    let general = plan.general in
    let chain = chain_over plan tables input in
    let cut = c.args.closed.cut in
    let why = c.args.closed.cause in
    let counts = c.args.printed.counts in
    let own = rules_of (named_rules plan.plugins tables) in
    let stands = plugin_stands g.P.Plugin.stands_for in
    let met_own : AllMetTo stands own input cut 0 c.args.plugins.now =
    subst (λ (rules : List PluginRule). AllMetTo stands rules input cut 0 c.args.plugins.now) same met in
    let same_items : map (by_plugin g.P.Plugin.rule) c.args.plugins.now ≡ rules_of (named_rules c.as_slice-items.result.now tables) =
    same ∙ sym (ap (λ (items : List PluginItem). rules_of (named_rules items tables)) c.as_slice-items.ensures) in
    let judged = c.in-Ok.ensures tables own input same_items met_own in
    let text : c.as_str.result.now ≡ rest_printed general.bare counts c.args.kept.now why
    ++ (summaries_printed general.bare own input cut 0 (named_rules plan.plugins tables) ++ (if general.bare then [] else end_line why cut)) =
    c.as_str.ensures.value
    ∙ (judged.1 ∙ ap (λ (items : List PluginItem). rest_printed general.bare counts c.args.kept.now why
    ++ (summaries_printed general.bare own input cut 0 (named_rules items tables) ++ (if general.bare then [] else end_line why cut))) c.as_slice-items.ensures) in
    inl (live-reported general left_out chain cut at why form gaps c.args.kept.now counts first (g.D.Desk.seen c.args.desk.now) (g.D.Desk.seen c.say_on.new.desk)
    c.args.printed.whole c.say_on.new.failed _ (faults_from own input cut 0 (named_rules plan.plugins tables)) c.one_failed-late.result c.args.closing_failed c.as_str.result.now _
    c.requires.live (is-whole c.args.printed.whole c.if-not-printed.false) below extends judged.2 text
    (judged.0 ∙ ap (λ (items : List PluginItem). rest_faulty counts c.args.kept.now why || faults_from own input cut 0 (named_rules items tables)) c.as_slice-items.ensures)
    c.one_failed-late.ensures c.status_of_run.ensures
    c.args.printed.failed printed (c.say_on.ensures.said first) c.say_on.ensures.over)

pub returns-in-Err : goal.returns-in-Err
returns-in-Err g c = λ tables input first form gaps at left_out same met below extends printed.
    inr (
      refl,
      stands-live c.args.plan.now.general form gaps at c.args.kept.now c.args.closed.cause left_out (chain_over c.args.plan.now tables input) c.args.closed.cut
          first (g.D.Desk.seen c.args.desk.now) c.args.printed.failed c.args.printed.whole c.args.printed.counts c.requires.live below extends printed,
    )
