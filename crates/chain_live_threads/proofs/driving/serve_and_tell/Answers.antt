use Rattle.std.proofs.Common.{◌∙◌, sym}
use Rattle.stage_run.specs.Seeing.{seeing}
use Rattle.chain_tells.specs.Printing.{PrintsLines}
use Rattle.chain_live_threads.specs.Rows.{is_over}
use Rattle.chain_live_threads.proofs.Carries.{over_beside}
use Rattle.chain_live_threads.proofs.WentLemmas.{ready-row, went_round, went_then, went_ready}
use Rattle.chain_live_threads.proofs.driving.serve_and_tell.Goals as goal

pub serve_row-came-requires-clause-ready : goal.serve_row-came-requires-clause-ready
serve_row-came-requires-clause-ready g c = λ κs within. ready-row (seeing g.S.Source.seen g.K.Sink.seen g.P.Plugin.rule g.P.Plugin.stands_for g.P.Plugin.preallocated) c.args.ring.now c.args.telling.now.told c.args.row.now c.requires.ready

pub tell-requires-clause-ready : goal.tell-requires-clause-ready
tell-requires-clause-ready g c = λ κs within.
    let see = (seeing g.S.Source.seen g.K.Sink.seen g.P.Plugin.rule g.P.Plugin.stands_for g.P.Plugin.preallocated) in
    let hears = (PrintsLines g.D.Desk.seen (g.L.LineTexts.text_of c.args.texts.now)) in
    let telling = c.args.telling.now in
    went_ready see c.args.ring.now hears (telling.printing, c.args.desk.now) (telling.printing, c.args.desk.now) telling.told telling.told c.args.row.now c.serve_row-came.new.stages
    (went_round see c.args.ring.now hears c.run_laws.ensures (telling.printing, c.args.desk.now) telling.told c.args.row.now c.serve_row-came.new.stages c.serve_row-came.ensures.carried) c.requires.ready

pub tell-requires-clause-rows : goal.tell-requires-clause-rows
tell-requires-clause-rows g c = λ κs within.
    let see = (seeing g.S.Source.seen g.K.Sink.seen g.P.Plugin.rule g.P.Plugin.stands_for g.P.Plugin.preallocated) in
    let hears = (PrintsLines g.D.Desk.seen (g.L.LineTexts.text_of c.args.texts.now)) in
    let telling = c.args.telling.now in
    c.requires.rows ∙ sym (went_round see c.args.ring.now hears c.run_laws.ensures (telling.printing, c.args.desk.now) telling.told c.args.row.now c.serve_row-came.new.stages c.serve_row-came.ensures.carried).long

pub returns-clause-went : goal.returns-clause-went
returns-clause-went g c =
    let see = (seeing g.S.Source.seen g.K.Sink.seen g.P.Plugin.rule g.P.Plugin.stands_for g.P.Plugin.preallocated) in
    let hears = (PrintsLines g.D.Desk.seen (g.L.LineTexts.text_of c.args.texts.now)) in
    let telling = c.args.telling.now in
    let after = c.tell.new.telling in
    went_then see c.args.ring.now hears (telling.printing, c.args.desk.now) (telling.printing, c.args.desk.now) (after.printing, c.tell.new.desk) telling.told telling.told after.told
    c.args.row.now c.serve_row-came.new.stages c.tell.new.row
    (went_round see c.args.ring.now hears c.run_laws.ensures (telling.printing, c.args.desk.now) telling.told c.args.row.now c.serve_row-came.new.stages c.serve_row-came.ensures.carried)
    c.tell.ensures.went

pub returns-clause-ended : goal.returns-clause-ended
returns-clause-ended g c = over_beside (is_over c.serve_row-came.result) c.serve_row-came.new.stages c.tell.new.row c.tell.ensures.same c.serve_row-came.ensures.ended
