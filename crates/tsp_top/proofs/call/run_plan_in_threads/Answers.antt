use Rattle.std.proofs.Common.{arith}
use Rattle.tsp_top.proofs.CalledLemmas.{called, called-few, called-reach, ready-plugins}
use Rattle.tsp_top.proofs.call.run_plan_in_threads.Goals as goal

pub run_in_threads-end-requires-clause-every : goal.run_in_threads-end-requires-clause-every
run_in_threads-end-requires-clause-every g c κs within = c.in-Ok.ensures.2.ready.every

pub run_in_threads-end-requires-clause-unused : goal.run_in_threads-end-requires-clause-unused
run_in_threads-end-requires-clause-unused g c κs within = c.in-Ok.ensures.2.unused

pub run_in_threads-end-requires-clause-valid : goal.run_in_threads-end-requires-clause-valid
run_in_threads-end-requires-clause-valid g c κs within = c.in-Ok.ensures.2.ready.numbers_are.valid

pub run_in_threads-end-requires-clause-plugins : goal.run_in_threads-end-requires-clause-plugins
run_in_threads-end-requires-clause-plugins g c κs within = omega (arith, ready-plugins _ _ _ _ _ _ c.in-Ok.field-0.core _ c.in-Ok.ensures.2.ready)

pub run_in_threads-end-requires-clause-fresh : goal.run_in_threads-end-requires-clause-fresh
run_in_threads-end-requires-clause-fresh g c κs within = c.in-Ok.ensures.2.ready.fresh

pub finish-requires-clause-reach : goal.finish-requires-clause-reach
finish-requires-clause-reach g c κs within = called-reach _ _ _ _ _ _ _ _ _ _ _ _ _ _ _ c.in-Ok.ensures c.run_in_threads-end.ensures

pub finish-requires-clause-valid : goal.finish-requires-clause-valid
finish-requires-clause-valid g c κs within = c.requires.valid.general

pub finish-requires-clause-few : goal.finish-requires-clause-few
finish-requires-clause-few g c κs within = called-few _ _ _ _ _ _ _ _ _ _ _ _ _ _ _ c.in-Ok.ensures c.run_in_threads-end.ensures

pub returns-in-Ok : goal.returns-in-Ok
returns-in-Ok g c = called _ _ _ c.args.plan.now c.in-Ok.field-0.core (g.D.Desk.seen c.args.desk.now) (g.D.Desk.seen c.begin_plan.new.desk)
    c.in-Ok.field-0.stages.input c.run_in_threads-end.result.input c.in-Ok.field-0.stages.stuffing c.in-Ok.field-0.stages.plugins.items c.run_in_threads-end.result.plugins.items
    c.in-Ok.field-0.stages.output c.run_in_threads-end.result.output c.run_in_threads-end.result.closed c.in-Ok.ensures c.run_in_threads-end.ensures
    _ _ c.finish.ensures
