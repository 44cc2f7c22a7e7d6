use Rattle.plug_analyze.proofs.Analyzing.{summary_is}
use Rattle.plug_analyze.proofs.analyze.AnalyzePlugin.summary.Goals as goal

pub returns-clause-said : goal.returns-clause-said
returns-clause-said c = λ history mark s.
    summary_is c.args.self.now.last c.args.self.now.noted c.args.self.now.services history mark (s.0 c.in_ok-check.ensures.unset)
    c.totals.result.now c.as_slice.result.now c.args.at c.args.lines.now.items c.push_summary.new.lines.items
    c.totals.ensures c.as_slice.ensures c.in_ok-push_summary.ensures
