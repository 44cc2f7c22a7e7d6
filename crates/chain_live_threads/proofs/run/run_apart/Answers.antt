use Rattle.std.proofs.Common.{arith, refl}
use Rattle.chain_run.proofs.RunUses.{never-err}
use Rattle.chain_tells.proofs.LiveLemmas.{ok-of-err, on-err}
use Rattle.chain_live_threads.proofs.run.run_apart.Goals as goal

pub run_laid-requires-clause-runs : goal.run_laid-requires-clause-runs
run_laid-requires-clause-runs g c κs within =
    let stages = c.args.stages in
    (stages.input, stages.stuffing, stages.plugins.items, stages.output, c.args.plan.now, c.lay_stages-parts.ensures.new c.args.plan.now c.requires.valid c.requires.plugins, c.in-Ok.ensures.ring)

pub run_laid-requires-clause-room : goal.run_laid-requires-clause-room
run_laid-requires-clause-room g c κs within =
    let row = c.lay_stages-parts.ensures.new c.args.plan.now c.requires.valid c.requires.plugins in
    let many = row.stages_are in
    omega (arith, many, c.requires.plugins, c.lay_stages-parts.ensures.room_left)

pub run_laid-requires-clause-stages : goal.run_laid-requires-clause-stages
run_laid-requires-clause-stages g c κs within =
    let row = c.lay_stages-parts.ensures.new c.args.plan.now c.requires.valid c.requires.plugins in
    let many = row.stages_are in
    omega (arith, many, c.in-Ok.ensures.stages)

pub run_laid-requires-clause-rows : goal.run_laid-requires-clause-rows
run_laid-requires-clause-rows g c κs within =
    let row = c.lay_stages-parts.ensures.new c.args.plan.now c.requires.valid c.requires.plugins in
    let many = row.stages_are in
    omega (arith, many, c.in-Ok.ensures.lines)

pub returns-clause-closed : goal.returns-clause-closed
returns-clause-closed g c = λ plugins name_of rules names.
    let stages = c.args.stages in
    c.run_laid.ensures.closed plugins name_of stages.input stages.stuffing stages.plugins.items stages.output c.args.plan.now rules names
    (c.lay_stages-parts.ensures.new c.args.plan.now c.requires.valid c.requires.plugins) c.in-Ok.ensures.ring

pub returns-clause-never_began : goal.returns-clause-never_began
returns-clause-never_began g c = never-err c.run_laid.result.end.closed _ c.run_laid.ensures.ran

pub returns-clause-silent : goal.returns-clause-silent
returns-clause-silent g c = never-err c.run_laid.result.end.closed _ c.run_laid.ensures.ran

pub returns-in_default-clause-closed : goal.returns-in_default-clause-closed
returns-in_default-clause-closed g c = λ plugins name_of rules names. ok-of-err c.never_ran.result.end.closed _ c.never_ran.ensures.closed

pub returns-in_default-clause-never_began : goal.returns-in_default-clause-never_began
returns-in_default-clause-never_began g c = on-err c.never_ran.result.end.closed _ c.never_ran.ensures.never

pub returns-in_default-clause-silent : goal.returns-in_default-clause-silent
returns-in_default-clause-silent g c = on-err c.never_ran.result.end.closed _ (refl, refl)
