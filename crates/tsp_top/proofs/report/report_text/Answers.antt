use Rattle.std.proofs.Common.{◌≡◌, ◌++◌, ◌||◌, ap, ◌∙◌, Bool, List, [], ℕ, map, if◌then◌else◌, append_assoc}
use Rattle.std.specs.String.{string_bytes}
use Rattle.chain_model.specs.PluginRule.{PluginRule}
use Rattle.chain_model.specs.Reports.{end_line}
use Rattle.tsp_top.specs.ByPlugin.{by_plugin}
use Rattle.tsp_top.specs.Faults.{faults_from}
use Rattle.tsp_top.specs.LeftOut.{input_faulty, kept_out}
use Rattle.tsp_top.specs.PlannedChain.{named_rules, stuffing_of}
use Rattle.tsp_top.specs.Printed.{input_printed, printed_from}
use Rattle.tsp_top.proofs.ReportLemmas.{reports-same}
use Rattle.tsp_top.proofs.report.report_text.Goals as goal

pub returns : goal.returns
returns g c = λ tables input same met.
    let general = c.args.general.now in
    let own : List PluginRule = map (by_plugin g.P.Plugin.rule) c.args.plugins.now in
    let first : List ℕ = input_printed general.bare (stuffing_of general) (kept_out c.args.kept.now) c.args.closed.cut c.args.closed.cause in
    let printed : List ℕ = printed_from general.bare own input c.args.closed.cut 0 (named_rules c.args.items.now tables) in
    let last : List ℕ = if general.bare then [] else end_line c.args.closed.cause c.args.closed.cut in
    let begins : string_bytes c.push_input.new.text ≡ first =
    c.in_ok-input_faulty.ensures.said ∙ ap (λ (l : List ℕ). l ++ first) c.new-text.ensures.bytes in
    let goes : string_bytes c.push_reports.new.text ≡ first ++ printed =
    c.in_ok-plugin_faulty.ensures.said tables own input same met ∙ ap (λ (l : List ℕ). l ++ printed) begins in
    let said : string_bytes c.push_str.new.self ≡ (first ++ printed) ++ last =
    c.in_ok-push_str.ensures.bytes
    ∙ ap (λ (l : List ℕ). string_bytes c.push_reports.new.text ++ l) (c.as_str.ensures.value ∙ c.in_ok-last.ensures)
    ∙ ap (λ (l : List ℕ). l ++ last) goes in (
      c.either-faulty.ensures
          ∙ ap (λ (b : Bool). b || c.in_ok-plugin_faulty.plugin_faulty) c.in_ok-input_faulty.ensures.faulty
          ∙ ap (λ (b : Bool). input_faulty (stuffing_of general) (kept_out c.args.kept.now) c.args.closed.cut c.args.closed.cause || b)
          (c.in_ok-plugin_faulty.ensures.faults tables own input same met
          ∙ ap (λ (rs : List PluginRule). faults_from rs input c.args.closed.cut 0 (named_rules c.args.items.now tables)) same),
      said ∙ append_assoc first printed last
          ∙ ap (λ (l : List ℕ). first ++ l) (reports-same general own (named_rules c.args.items.now tables) input c.args.closed.cut c.args.closed.cause same),
      c.in_ok-input_faulty.ensures.known,
    )
