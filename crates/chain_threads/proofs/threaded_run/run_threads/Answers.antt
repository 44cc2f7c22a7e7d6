use Rattle.std.proofs.Common.{arith}
use Rattle.std.specs.Prelude.{Ok, Err, IsOk, OnErr}
use Rattle.std.specs.declared.result.Result.{Result}
use Rattle.stage_run.specs.Seeing.{seeing}
use Rattle.chain_run.specs.Runs.{began_with}
use Rattle.chain_threads.proofs.threaded_run.run_threads.Goals as goal

-- of an answer that is there no clause on its fault says anything
never-err : {T E : Type 0} (r : Result T E) (P : Type 0) → IsOk r → OnErr r P
never-err (Ok value) P is = tt
never-err (Err fault) P is = absurd cc

pub run_laid-requires-clause-runs : goal.run_laid-requires-clause-runs
run_laid-requires-clause-runs g c κs within =
    let see = seeing g.S.Source.seen g.K.Sink.seen g.P.Plugin.rule g.P.Plugin.stands_for g.P.Plugin.preallocated in (
      began_with see c.args.stages.input c.args.stages.stuffing c.args.stages.plugins.items c.args.stages.output c.args.plan.now,
      c.lay_stages-parts.ensures.new c.args.plan.now c.requires.valid c.requires.plugins,
      c.in-Ok.ensures.ring,
    )

pub run_laid-requires-clause-room : goal.run_laid-requires-clause-room
run_laid-requires-clause-room g c κs within =
    let row = c.lay_stages-parts.ensures.new c.args.plan.now c.requires.valid c.requires.plugins in
    let many = row.stages_are in
    omega (arith, many, c.requires.plugins, c.lay_stages-parts.ensures.room_left)

pub run_laid-requires-clause-stages : goal.run_laid-requires-clause-stages
run_laid-requires-clause-stages g c κs within =
    let row = c.lay_stages-parts.ensures.new c.args.plan.now c.requires.valid c.requires.plugins in
    let many = row.stages_are in
    omega (arith, many, c.in-Ok.ensures.stages)

pub returns-clause-closed : goal.returns-clause-closed
returns-clause-closed g c =
    c.run_laid.ensures.runs c.args.stages.input c.args.stages.stuffing c.args.stages.plugins.items c.args.stages.output c.args.plan.now
    (c.lay_stages-parts.ensures.new c.args.plan.now c.requires.valid c.requires.plugins) c.in-Ok.ensures.ring

pub returns-clause-never_began : goal.returns-clause-never_began
returns-clause-never_began g c = never-err c.run_laid.result.closed _ c.run_laid.ensures.ran
