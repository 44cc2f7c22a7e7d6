use Rattle.std.proofs.Common.{rules, ◌≡◌, ◌≤◌, ◌+◌, ◌++◌, map, take, List, ℕ, ap, ◌∙◌, arith}
use Rattle.std.specs.String.{string_bytes}
use Rattle.std.specs.List.{flat_map}
use Rattle.chain_model.specs.PluginRule.{PluginRule}
use Rattle.chain_model.specs.Reports.{said_of}
use Rattle.plugin_trait.specs.HeardStands.{HeardStands}
use Rattle.plugin_trait.specs.declared.line.Line.{Line}
use Rattle.plugin_settings.specs.Plugins.{name_of}
use Rattle.tsp_top.specs.ByPlugin.{by_plugin}
use Rattle.tsp_top.specs.PlannedChain.{later_tables}
use Rattle.tsp_top.specs.Printed.{printed_line}
use Rattle.tsp_top.proofs.ReportLemmas.{ReachesCut-split, appended, faults-split, met-rest, report-split, rest-rules}
use Rattle.tsp_top.proofs.reporting.+push_reports.Goals as goal

pub judge-requires : goal.judge-requires
judge-requires g t c =
    (ReachesCut-split (HeardStands g.P.Plugin.rule g.P.Plugin.stands_for) c.args.plugins.now c.in-Some.rest.now c.in-Some.first.now c.args.cut c.args.j
    c.in-Some.ensures.cases.0 c.requires.reach).0

pub report-requires : goal.report-requires
report-requires g t c = c.in_ok-first_faulty.ensures.allows

pub push_reports-requires : goal.push_reports-requires
push_reports-requires g t c = λ κs within. (
  search rules,
  (
    search rules,
    (
      search rules,
      (ReachesCut-split (HeardStands g.P.Plugin.rule g.P.Plugin.stands_for) c.args.plugins.now c.in-Some.rest.now c.in-Some.first.now c.args.cut c.args.j c.in-Some.ensures.cases.0 c.requires.reach).1,
    ),
  ),
)

pub returns-clause-faults : goal.returns-clause-faults
returns-clause-faults g t c = λ tables rules input same met.
    faults-split (by_plugin g.P.Plugin.rule) (HeardStands g.P.Plugin.rule g.P.Plugin.stands_for) rules input c.args.plugins.now c.in-Some.rest.now c.in-Some.first.now
    c.args.items.now c.in-Some-split_first.later.now c.in-Some-split_first.item.now tables
    c.args.j c.args.cut c.in_ok-first_faulty.first_faulty c.in_ok-later_faulty.later_faulty c.either.result c.in-Some.ensures.cases.0 c.in-Some-split_first.ensures.cases.0 same met
    c.in_ok-first_faulty.ensures.judged
    (c.in_ok-later_faulty.ensures.faults (later_tables tables) rules input
    (rest-rules (by_plugin g.P.Plugin.rule) c.args.plugins.now c.in-Some.rest.now c.in-Some.first.now c.args.items.now c.in-Some-split_first.later.now c.in-Some-split_first.item.now tables
    c.in-Some.ensures.cases.0 c.in-Some-split_first.ensures.cases.0 same)
    (met-rest (HeardStands g.P.Plugin.rule g.P.Plugin.stands_for) rules input c.args.plugins.now c.in-Some.rest.now c.in-Some.first.now c.args.cut c.args.j c.in-Some.ensures.cases.0 met))
    c.either.ensures

pub returns-clause-said : goal.returns-clause-said
returns-clause-said g t c = λ tables rules input same met.
    let texts : List (List ℕ) = map (λ (line : Line). line.text) c.report.new.heard.lines.items in
    let split = report-split said_of c.args.bare (by_plugin g.P.Plugin.rule) (HeardStands g.P.Plugin.rule g.P.Plugin.stands_for) rules input c.args.plugins.now c.in-Some.rest.now c.in-Some.first.now
    c.args.items.now c.in-Some-split_first.later.now c.in-Some-split_first.item.now tables
    c.args.j c.args.cut texts c.in-Some.ensures.cases.0 c.in-Some-split_first.ensures.cases.0 same met
    (λ history mark heard le within. let own : c.args.cut ≤ c.args.cut = omega arith in
    c.in_ok-report.ensures.said history c.args.cut (c.in_ok-first_faulty.ensures.stands history mark heard le within) own within
    ∙ ap (λ (r : PluginRule). said_of r (take c.args.cut history)) c.judge.ensures.same_rule) in
    let name : List ℕ = name_of c.in-Some-split_first.item.now.conf in
    let first : List ℕ = string_bytes c.args.text.now in
    let pushed : string_bytes c.push_lines.new.text ≡ first ++ flat_map (printed_line c.args.bare (c.args.j + 1) name) texts =
    c.in_ok-push_lines.ensures
    ∙ ap (λ (n : List ℕ). first ++ flat_map (printed_line c.args.bare (c.args.j + 1) n) (map (λ (line : Line). line.text) c.deref.result.now)) c.name.ensures
    ∙ ap (λ (l : List Line). first ++ flat_map (printed_line c.args.bare (c.args.j + 1) name) (map (λ (line : Line). line.text) l)) c.deref.ensures.value in
    appended first (flat_map (printed_line c.args.bare (c.args.j + 1) name) texts) _ _ _ _
    (c.in_ok-later_faulty.ensures.said (later_tables tables) rules input
    (rest-rules (by_plugin g.P.Plugin.rule) c.args.plugins.now c.in-Some.rest.now c.in-Some.first.now c.args.items.now c.in-Some-split_first.later.now c.in-Some-split_first.item.now tables
    c.in-Some.ensures.cases.0 c.in-Some-split_first.ensures.cases.0 same) split.met)
    pushed split.said
