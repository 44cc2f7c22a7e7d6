use Rattle.std.proofs.Common.{take, ap, subst, ◌∙◌, arith, Result, is_ok, if◌then◌else◌}
use Rattle.std.specs.declared.alloc.AllocError.{AllocError}
use Rattle.chain_model.specs.PluginRule.{PluginRule}
use Rattle.tsp_top.proofs.live_report.judge_told.Goals as goal

pub returns-clause-allows : goal.returns-clause-allows
returns-clause-allows g c =
    let a = c.requires in
    let gives = c.note.ensures.gives a.history a.mark a.holds a.not_below a.met in
    record {
      history = a.history;
      mark = c.args.cut;
      holds = subst (λ (r : Result (Unit {0}) AllocError). g.P.Plugin.stands_for c.note.new.self a.history (if is_ok r then c.args.cut else a.mark)) c.in_ok-note.was gives.0;
      not_below = omega arith;
      met = a.met;
    }

pub returns-clause-stands : goal.returns-clause-stands
returns-clause-stands g c = λ history mark holds le within.
    let gives = c.note.ensures.gives history mark holds le within in
    subst (λ (r : Result (Unit {0}) AllocError). g.P.Plugin.stands_for c.note.new.self history (if is_ok r then c.args.cut else mark)) c.in_ok-note.was gives.0

pub returns-clause-judged : goal.returns-clause-judged
returns-clause-judged g c = λ history mark holds le within.
    let gives = c.note.ensures.gives history mark holds le within in
    c.has_fault.ensures history
    (subst (λ (r : Result (Unit {0}) AllocError). g.P.Plugin.stands_for c.note.new.self history (if is_ok r then c.args.cut else mark)) c.in_ok-note.was gives.0)
    ∙ ap (λ (r : PluginRule). r.has_fault (take c.args.cut history)) c.note.ensures.same_rule
