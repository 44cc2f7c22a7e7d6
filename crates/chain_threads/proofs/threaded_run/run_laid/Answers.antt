use Rattle.std.proofs.Common.{arith}
use Rattle.stage_run.specs.Seeing.{seeing}
use Rattle.chain_run.specs.Runs.{began_with}
use Rattle.chain_threads.proofs.SeatLemmas.{are_new}
use Rattle.chain_threads.proofs.threaded_run.run_laid.Goals as goal

pub drive_parts-requires-clause-new : goal.drive_parts-requires-clause-new
drive_parts-requires-clause-new g c κs within =
    let see = seeing g.S.Source.seen g.K.Sink.seen g.P.Plugin.rule g.P.Plugin.stands_for g.P.Plugin.preallocated in
    (c.requires.runs.0, are_new see c.requires.runs.0 c.args.parts.items c.args.new c.requires.runs.1 c.requires.runs.2)

pub end_run-requires-clause-ended : goal.end_run-requires-clause-ended
end_run-requires-clause-ended g c =
    let see = seeing g.S.Source.seen g.K.Sink.seen g.P.Plugin.rule g.P.Plugin.stands_for g.P.Plugin.preallocated in
    let begun = c.requires.runs.0 in
    let new = are_new see begun c.args.parts.items c.args.new c.requires.runs.1 c.requires.runs.2 in
    (begun, new.plan_is, c.drive_parts.ensures begun new)

pub end_run-requires-clause-room : goal.end_run-requires-clause-room
end_run-requires-clause-room g c =
    let see = seeing g.S.Source.seen g.K.Sink.seen g.P.Plugin.rule g.P.Plugin.stands_for g.P.Plugin.preallocated in
    let begun = c.requires.runs.0 in
    let new = are_new see begun c.args.parts.items c.args.new c.requires.runs.1 c.requires.runs.2 in
    let was = new.row.stages_are in
    let is = (c.drive_parts.ensures begun new).parts_are in
    omega (arith, was, is, c.requires.room)

pub returns-clause-runs : goal.returns-clause-runs
returns-clause-runs g c = λ from stuffing plugins to plan row ring.
    let see = seeing g.S.Source.seen g.K.Sink.seen g.P.Plugin.rule g.P.Plugin.stands_for g.P.Plugin.preallocated in
    let begun = began_with see from stuffing plugins to plan in
    let new = are_new see begun c.args.parts.items c.args.new row ring in
    c.end_run.ensures.runs from stuffing plugins to plan new.plan_is (c.drive_parts.ensures begun new)
