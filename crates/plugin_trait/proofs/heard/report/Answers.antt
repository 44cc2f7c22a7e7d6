use Rattle.std.proofs.Common.{◌≡◌, ◌≤◌, ℕ, List, [], ◌++◌, take, map, ap, subst, ◌∙◌, Result, is_ok, if◌then◌else◌}
use Rattle.std.specs.Prelude.{OnOk}
use Rattle.std.proofs.lemmas.Result.{on_ok_weaker}
use Rattle.std.specs.declared.alloc.AllocError.{AllocError}
use Rattle.ts_packet.specs.declared.cell.Cell.{Cell}
use Rattle.chain_model.specs.PluginRule.{PluginRule}
use Rattle.chain_model.specs.Reports.{lines_after, said_of}
use Rattle.plugin_trait.specs.declared.line.Line.{Line}
use Rattle.plugin_trait.specs.PlacedLines.{placed_at, placed_after, placed_between}
use Rattle.plugin_trait.proofs.Saying.{text_of, texts-append, texts-placed_at, texts-placed_after}
use Rattle.plugin_trait.proofs.Giving.{given_out}
use Rattle.plugin_trait.proofs.heard.report.Goals as goal

-- the lines below a mark, those up to the cut and the summary there are the report
all_said : (rule : PluginRule) (history : List Cell) (mark cut : ℕ) → mark ≤ cut → (before noted whole : List Line)
    → before ≡ placed_after rule [] (take mark history) → noted ≡ before ++ placed_between rule history mark cut
    → whole ≡ noted ++ placed_at cut (rule.summary_of (take cut history))
    → map text_of whole ≡ said_of rule (take cut history)
all_said rule history mark cut le before noted whole first second third =
    let met = take cut history in
    let said = rule.summary_of met in
    let lines : noted ≡ placed_after rule [] met = second ∙ (ap (λ (xs : List Line). xs ++ placed_between rule history mark cut) first ∙ given_out rule history mark cut le) in
    ap (λ (xs : List Line). map text_of xs) (third ∙ ap (λ (xs : List Line). xs ++ placed_at cut said) lines)
    ∙ (texts-append (placed_after rule [] met) (placed_at cut said)
    ∙ (ap (λ (texts : List (List ℕ)). texts ++ map text_of (placed_at cut said)) (texts-placed_after rule [] met)
    ∙ ap (λ (texts : List (List ℕ)). lines_after rule [] met ++ texts) (texts-placed_at cut said)))

pub returns-clause-said : goal.returns-clause-said
returns-clause-said g c = λ history mark heard le within.
    let rule : PluginRule = g.P.Plugin.rule c.args.heard.now.plugin in
    let cut : ℕ = c.args.cut in
    let before : List Line = c.args.heard.now.lines.items in
    let noted : List Line = c.note.new.lines.items in
    let gives = c.note.ensures.gives history mark heard.holds le within in
    let given : noted ≡ before ++ placed_between rule history mark cut =
    subst (λ (r : Result (Unit {0}) AllocError). noted ≡ before ++ (if is_ok r then placed_between rule history mark cut else [])) c.in_ok-note.was gives.1 in
    let stands = subst (λ (r : Result (Unit {0}) AllocError). g.P.Plugin.stands_for c.note.new.self history (if is_ok r then cut else mark)) c.in_ok-note.was gives.0 in
    let said = subst (λ (r : PluginRule). OnOk c.summary.result (c.summary.new.lines.items ≡ noted ++ placed_at cut (r.summary_of (take cut history)))) c.note.ensures.same_rule
    (c.summary.ensures.said history cut stands) in
    on_ok_weaker c.summary.result (all_said rule history mark cut le before noted c.summary.new.lines.items heard.lines given) said
