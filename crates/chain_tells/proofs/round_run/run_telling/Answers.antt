use Rattle.std.proofs.Common.{arith, refl, subst}
use Rattle.stage_run.specs.Seeing.{seeing}
use Rattle.chain_run.specs.Runs.{began_with}
use Rattle.chain_run.specs.RunOf.{NeverBegan}
use Rattle.chain_run.specs.declared.stages.Stages.{Stages}
use Rattle.chain_run.proofs.RunUses.{never-err}
use Rattle.chain_tells.proofs.LiveLemmas.{ok-of-err, on-err, somehow}
use Rattle.chain_tells.proofs.round_run.run_telling.Goals as goal

pub run_begun_telling-requires-clause-runs : goal.run_begun_telling-requires-clause-runs
run_begun_telling-requires-clause-runs g c =
    let see = (seeing g.S.Source.seen g.K.Sink.seen g.P.Plugin.rule g.P.Plugin.stands_for g.P.Plugin.preallocated) in
    let stages = c.args.stages in
    λ κs within. somehow see (began_with see stages.input stages.stuffing stages.plugins.items stages.output c.args.plan.now) c.in-Ok-begin.run'.chain c.in-Ok-begin.ensures.runs

pub run_begun_telling-requires-clause-rows : goal.run_begun_telling-requires-clause-rows
run_begun_telling-requires-clause-rows g c = let a = c.in-Ok-begin.ensures.runs.fits.stages_are in omega arith

pub returns-in-Ok-begin-clause-closed : goal.returns-in-Ok-begin-clause-closed
returns-in-Ok-begin-clause-closed g c = λ plugins name_of rules names.
    let stages = c.args.stages in
    c.run_begun_telling.ensures.closed plugins name_of stages.input stages.stuffing stages.plugins.items stages.output c.args.plan.now rules names c.in-Ok-begin.ensures.runs

pub returns-in-Ok-begin-clause-never_began : goal.returns-in-Ok-begin-clause-never_began
returns-in-Ok-begin-clause-never_began g c = never-err c.run_begun_telling.result.end.closed _ c.run_begun_telling.ensures.ran

pub returns-in-Ok-begin-clause-silent : goal.returns-in-Ok-begin-clause-silent
returns-in-Ok-begin-clause-silent g c = never-err c.run_begun_telling.result.end.closed _ c.run_begun_telling.ensures.ran

pub returns-in_default-clause-closed : goal.returns-in_default-clause-closed
returns-in_default-clause-closed g c = λ plugins name_of rules names. ok-of-err c.never_ran.result.end.closed _ c.never_ran.ensures.closed

pub returns-in_default-clause-never_began : goal.returns-in_default-clause-never_began
returns-in_default-clause-never_began g c = on-err c.never_ran.result.end.closed _ c.never_ran.ensures.never

pub returns-in_default-clause-silent : goal.returns-in_default-clause-silent
returns-in_default-clause-silent g c = on-err c.never_ran.result.end.closed _ (refl, refl, refl)

pub returns-in-Err-clause-closed : goal.returns-in-Err-clause-closed
returns-in-Err-clause-closed g c = λ plugins name_of rules names. ok-of-err c.never_ran-in-Err.result.end.closed _ c.never_ran-in-Err.ensures.closed

pub returns-in-Err-clause-never_began : goal.returns-in-Err-clause-never_began
returns-in-Err-clause-never_began g c =
    on-err c.never_ran-in-Err.result.end.closed _
    (subst (λ (s : Stages _ _ _). NeverBegan s.input c.never_ran-in-Err.result.end.input s.plugins.items c.never_ran-in-Err.result.end.plugins.items s.output c.never_ran-in-Err.result.end.output)
    c.in-Err.ensures.as_they_were c.never_ran-in-Err.ensures.never)

pub returns-in-Err-clause-silent : goal.returns-in-Err-clause-silent
returns-in-Err-clause-silent g c = on-err c.never_ran-in-Err.result.end.closed _ (refl, refl, refl)
