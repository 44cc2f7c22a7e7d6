use Rattle.std.proofs.Common.{arith}
use Rattle.tsp_top.specs.PlannedTables.{tables_asked}
use Rattle.tsp_top.proofs.CalledLemmas.{live-called, live-few, live-reach, ready-plugins}
use Rattle.tsp_top.proofs.SourceLemmas.{opened-placed}
use Rattle.tsp_top.proofs.call.run_plan_live_apart.Goals as goal

pub run_printing_apart-run-requires-clause-every : goal.run_printing_apart-run-requires-clause-every
run_printing_apart-run-requires-clause-every g c κs within = c.in-Ok.ensures.2.ready.every

pub run_printing_apart-run-requires-clause-unused : goal.run_printing_apart-run-requires-clause-unused
run_printing_apart-run-requires-clause-unused g c κs within = c.in-Ok.ensures.2.unused

pub run_printing_apart-run-requires-clause-placed : goal.run_printing_apart-run-requires-clause-placed
run_printing_apart-run-requires-clause-placed g c κs within =
    opened-placed _ _ (tables_asked (g.D.Desk.seen c.args.desk.now) c.args.plan.now) c.args.plan.now.input c.in-Ok.field-0.stages.input c.requires.placed c.in-Ok.ensures.2.input

pub run_printing_apart-run-requires-clause-valid : goal.run_printing_apart-run-requires-clause-valid
run_printing_apart-run-requires-clause-valid g c κs within = c.in-Ok.ensures.2.ready.numbers_are.valid

pub run_printing_apart-run-requires-clause-plugins : goal.run_printing_apart-run-requires-clause-plugins
run_printing_apart-run-requires-clause-plugins g c κs within = omega (arith, ready-plugins _ _ _ _ _ _ c.in-Ok.field-0.core _ c.in-Ok.ensures.2.ready)

pub run_printing_apart-run-requires-clause-fresh : goal.run_printing_apart-run-requires-clause-fresh
run_printing_apart-run-requires-clause-fresh g c κs within = c.in-Ok.ensures.2.ready.fresh

pub finish_live-requires-clause-reach : goal.finish_live-requires-clause-reach
finish_live-requires-clause-reach g c κs within = live-reach _ _ _ _ _ _ _ _ _ _ _ _ _ _ _ _ _ _ c.in-Ok.ensures c.run_printing_apart-run.ensures

pub finish_live-requires-clause-valid : goal.finish_live-requires-clause-valid
finish_live-requires-clause-valid g c κs within = c.requires.valid.general

pub finish_live-requires-clause-few : goal.finish_live-requires-clause-few
finish_live-requires-clause-few g c κs within = live-few _ _ _ _ _ _ _ _ _ _ _ _ _ _ _ _ _ _ c.in-Ok.ensures c.run_printing_apart-run.ensures

pub returns-in-Ok : goal.returns-in-Ok
returns-in-Ok g c = live-called _ _ c.args.plan.now c.in-Ok.field-0.core (g.D.Desk.seen c.args.desk.now) (g.D.Desk.seen c.begin_plan.new.desk) (g.D.Desk.seen c.run_printing_apart-run.new.desk)
    c.in-Ok.field-0.stages.input c.run_printing_apart-run.result.end.input c.in-Ok.field-0.stages.stuffing c.in-Ok.field-0.stages.plugins.items c.run_printing_apart-run.result.end.plugins.items
    c.in-Ok.field-0.stages.output c.run_printing_apart-run.result.end.output c.run_printing_apart-run.result.printed.failed c.run_printing_apart-run.result.printed.whole c.run_printing_apart-run.result.printed.counts c.run_printing_apart-run.result.end.closed
    c.in-Ok.ensures c.run_printing_apart-run.ensures _ _ c.finish_live.ensures
