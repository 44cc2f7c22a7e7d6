use Rattle.std.proofs.Common.{arith}
use Rattle.std.proofs.lemmas.Result.{IfOk-weaker}
use Rattle.stage_run.specs.Seeing.{seeing}
use Rattle.chain_run.specs.Runs.{began_with}
use Rattle.chain_tells.specs.PrintingRounds.{PrintsRound}
use Rattle.chain_tells.specs.declared.printing.Printing.{Printing}
use Rattle.chain_tells.specs.Rounds.{lines_of_rounds}
use Rattle.chain_tells.proofs.RoundLemmas.{live-rounds, rounds-none}
use Rattle.chain_tells.proofs.round_run.run_begun_telling.Goals as goal

pub end-requires-clause-room : goal.end-requires-clause-room
end-requires-clause-room g c = omega (arith, c.requires.room, c.requires.rows, c.run_told_rounds-all_told.ensures.rows, c.run_told_rounds-all_told.ensures.same_rows)

pub returns-clause-closed : goal.returns-clause-closed
returns-clause-closed g c = λ plugins name_of from stuffing met_none to plan rules names runs.
    let see = (seeing g.S.Source.seen g.K.Sink.seen g.P.Plugin.rule g.P.Plugin.stands_for g.P.Plugin.preallocated) in
    let hears = PrintsRound g.D.Desk.seen g.T.RoundTexts.writes in
    let begun = began_with see from stuffing met_none to plan in
    let old = c.args.run.chain in
    let new = c.run_told_rounds-all_told.new.chain in
    let first : g.row.T.Denot × Printing × g.row.D.Denot = (c.args.texts.now, c.args.printing.now, c.args.desk.now) in
    let last : g.row.T.Denot × Printing × g.row.D.Denot = (c.run_told_rounds-all_told.new.texts, c.run_told_rounds-all_told.new.printing, c.run_told_rounds-all_told.new.desk) in
    let told = c.run_told_rounds-all_told.new.told in
    let has = c.run_told_rounds-all_told.ensures.told begun plugins name_of first
    (rounds-none see begun plugins name_of hears first old.core old.parts.items old.cells.items
    (c.nothing_is_told_at_first.ensures begun plugins name_of old.core old.parts.items old.cells.items rules names runs)) in
    IfOk-weaker c.end.result.closed _ _
    (λ closed closes.
    let right = c.what_was_told_is_right.ensures from c.end.result.input stuffing met_none c.end.result.plugins.items to c.end.result.output plan closed plugins name_of (λ _. told) told (lines_of_rounds has.rounds)
    new.core new.parts.items new.cells.items has.tells closes in
    live-rounds see plugins name_of hears first last c.run_told_rounds-all_told.result told from c.end.result.input stuffing met_none c.end.result.plugins.items to c.end.result.output plan closed
    new.core new.parts.items new.cells.items has closes c.run_told_rounds-all_told.ensures.all right.0 right.1.0 right.1.1)
    (c.end.ensures.told from stuffing met_none to plan (λ _. told) has.tells.goes)
