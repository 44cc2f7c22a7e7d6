use Rattle.std.proofs.Common.{◌≡◌, [], ◌++◌, take, ap, subst, ◌∙◌, arith, Result, is_ok, if◌then◌else◌}
use Rattle.std.specs.declared.alloc.AllocError.{AllocError}
use Rattle.chain_model.specs.PluginRule.{PluginRule}
use Rattle.plugin_trait.specs.PlacedLines.{placed_between}
use Rattle.tsp_top.proofs.JudgingLemmas.{told-stands}
use Rattle.tsp_top.proofs.judging.judge.Goals as goal

pub returns-clause-allows : goal.returns-clause-allows
returns-clause-allows g c =
    let rule : PluginRule = g.P.Plugin.rule c.args.heard.now.plugin in
    let a = c.requires in
    let gives = c.note.ensures.gives a.history a.mark a.holds.holds a.not_below a.met in
    record {
      history = a.history;
      mark = c.args.cut;
      holds = told-stands g.P.Plugin.rule g.P.Plugin.stands_for c.args.heard.now _ a.history a.mark c.args.cut a.not_below a.holds c.note.ensures.same_rule
          (subst (λ (r : Result (Unit {0}) AllocError). g.P.Plugin.stands_for c.note.new.self a.history (if is_ok r then c.args.cut else a.mark)) c.in_ok-note.was gives.0)
          (subst (λ (r : Result (Unit {0}) AllocError). c.note.new.lines.items ≡ c.args.heard.now.lines.items ++ (if is_ok r then placed_between rule a.history a.mark c.args.cut else [])) c.in_ok-note.was gives.1);
      not_below = omega arith;
      met = a.met;
    }

pub returns-clause-stands : goal.returns-clause-stands
returns-clause-stands g c = λ history mark heard le within.
    let rule : PluginRule = g.P.Plugin.rule c.args.heard.now.plugin in
    let gives = c.note.ensures.gives history mark heard.holds le within in
    told-stands g.P.Plugin.rule g.P.Plugin.stands_for c.args.heard.now _ history mark c.args.cut le heard c.note.ensures.same_rule
    (subst (λ (r : Result (Unit {0}) AllocError). g.P.Plugin.stands_for c.note.new.self history (if is_ok r then c.args.cut else mark)) c.in_ok-note.was gives.0)
    (subst (λ (r : Result (Unit {0}) AllocError). c.note.new.lines.items ≡ c.args.heard.now.lines.items ++ (if is_ok r then placed_between rule history mark c.args.cut else [])) c.in_ok-note.was gives.1)

pub returns-clause-judged : goal.returns-clause-judged
returns-clause-judged g c = λ history mark heard le within.
    let gives = c.note.ensures.gives history mark heard.holds le within in
    c.has_fault.ensures history
    (subst (λ (r : Result (Unit {0}) AllocError). g.P.Plugin.stands_for c.note.new.self history (if is_ok r then c.args.cut else mark)) c.in_ok-note.was gives.0)
    ∙ ap (λ (r : PluginRule). r.has_fault (take c.args.cut history)) c.note.ensures.same_rule
