use Rattle.std.proofs.Common.{ℕ, List, subst, inl, ◌∙◌}
use Rattle.tsp_top.proofs.ReportLemmas.{status-same}
use Rattle.tsp_top.proofs.report.report_run.Goals as goal
use Rattle.ts_outside.specs.Saying.{Says}

pub returns-in-Ok : goal.returns-in-Ok
returns-in-Ok g c = λ tables input same met.
    let judged = c.in-Ok.ensures tables input same met in inl (
      c.say-failed.result,
      subst (λ (text : List ℕ). Says (g.D.Desk.seen c.args.desk.now) (g.D.Desk.seen c.say-failed.new.desk) text c.say-failed.result)
          (c.as_str.ensures.value ∙ judged.1) c.say-failed.ensures,
      status-same c.args.general.now _ _ c.args.closed.cause c.one_failed-late.result _ _ c.status_of_run.ensures judged.0 c.one_failed-late.ensures,
      judged.2,
    )
