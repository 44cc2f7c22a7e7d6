use Rattle.std.proofs.Common.{arith}
use Rattle.stage_run.specs.Seeing.{seeing}
use Rattle.chain_run.specs.Runs.{began_with}
use Rattle.chain_threads.proofs.SeatLemmas.{are_new}
use Rattle.chain_live_threads.proofs.run.run_laid.Goals as goal

pub drive_parts-telling-requires-clause-new : goal.drive_parts-telling-requires-clause-new
drive_parts-telling-requires-clause-new g c κs within =
    let see = (seeing g.S.Source.seen g.K.Sink.seen g.P.Plugin.rule g.P.Plugin.stands_for g.P.Plugin.preallocated) in
    let r = c.requires.runs in
    let begun = began_with see r.0 r.1 r.2 r.3 r.4 in
    (begun, are_new see begun c.args.parts.items c.args.new r.5 r.6)

pub end_told-requires-clause-ended : goal.end_told-requires-clause-ended
end_told-requires-clause-ended g c κs within =
    let see = (seeing g.S.Source.seen g.K.Sink.seen g.P.Plugin.rule g.P.Plugin.stands_for g.P.Plugin.preallocated) in
    let r = c.requires.runs in
    let begun = began_with see r.0 r.1 r.2 r.3 r.4 in
    let new = are_new see begun c.args.parts.items c.args.new r.5 r.6 in
    (r.0, r.1, r.2, r.3, r.4, new.plan_is, c.drive_parts-telling.ensures.ended begun new)

pub end_told-requires-clause-room : goal.end_told-requires-clause-room
end_told-requires-clause-room g c κs within =
    let see = (seeing g.S.Source.seen g.K.Sink.seen g.P.Plugin.rule g.P.Plugin.stands_for g.P.Plugin.preallocated) in
    let r = c.requires.runs in
    let begun = began_with see r.0 r.1 r.2 r.3 r.4 in
    let new = are_new see begun c.args.parts.items c.args.new r.5 r.6 in
    let was = new.row.stages_are in
    let is = (c.drive_parts-telling.ensures.ended begun new).parts_are in
    omega (arith, was, is, c.requires.room)

pub end_told-requires-clause-rows : goal.end_told-requires-clause-rows
end_told-requires-clause-rows g c κs within =
    let see = (seeing g.S.Source.seen g.K.Sink.seen g.P.Plugin.rule g.P.Plugin.stands_for g.P.Plugin.preallocated) in
    let r = c.requires.runs in
    let begun = began_with see r.0 r.1 r.2 r.3 r.4 in
    let new = are_new see begun c.args.parts.items c.args.new r.5 r.6 in
    let was = new.row.stages_are in
    let is = (c.drive_parts-telling.ensures.ended begun new).parts_are in
    omega (arith, was, is, c.requires.rows, c.drive_parts-telling.ensures.rows)

pub returns-clause-closed : goal.returns-clause-closed
returns-clause-closed g c = λ plugins name_of from stuffing met_none to plan rules names row ring.
    let see = (seeing g.S.Source.seen g.K.Sink.seen g.P.Plugin.rule g.P.Plugin.stands_for g.P.Plugin.preallocated) in
    let begun = began_with see from stuffing met_none to plan in
    let new = are_new see begun c.args.parts.items c.args.new row ring in
    c.end_told.ensures.closed plugins name_of from stuffing met_none to plan (c.args.printing.now, c.args.desk.now) new.plan_is
    (c.drive_parts-telling.ensures.ended begun new) (c.drive_parts-telling.ensures.told begun plugins name_of new rules names)
