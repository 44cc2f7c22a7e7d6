use Rattle.std.proofs.Common.{arith}
use Rattle.stage_run.specs.Seeing.{seeing}
use Rattle.chain_run.specs.Runs.{began_with}
use Rattle.chain_run.proofs.serial_run.run_laid.Goals as goal

pub end-requires-clause-runs : goal.end-requires-clause-runs
end-requires-clause-runs g c =
    let begun = c.requires.runs.0 in
    (begun, (c.run.ensures.runs begun c.requires.runs.1).now)

pub end-requires-clause-room : goal.end-requires-clause-room
end-requires-clause-room g c =
    let begun = c.requires.runs.0 in
    let goes = (c.run.ensures.runs begun c.requires.runs.1).now in
    let was = c.requires.runs.1.fits.stages_are in
    let a = goes.fits.stages_are in
    omega (arith, c.requires.room)

pub returns-clause-runs : goal.returns-clause-runs
returns-clause-runs g c = λ from stuffing plugins to plan runs.
    let see = (seeing g.S.Source.seen g.K.Sink.seen g.P.Plugin.rule g.P.Plugin.stands_for g.P.Plugin.preallocated) in
    let begun = began_with see from stuffing plugins to plan in
    c.end.ensures.runs from stuffing plugins to plan (c.run.ensures.runs begun runs).now
