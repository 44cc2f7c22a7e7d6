use Rattle.std.proofs.Common.{◌∙◌, arith}
use Rattle.stage_run.specs.Seeing.{seeing}
use Rattle.chain_tells.specs.Printing.{PrintsLines}
use Rattle.chain_live_threads.proofs.Carries.{still_ready, then_}
use Rattle.chain_live_threads.proofs.WentLemmas.{carried-long, went_ready, went_then}
use Rattle.chain_live_threads.proofs.two_threads.drive_stages.Goals as goal

pub drive_here-requires-clause-one : goal.drive_here-requires-clause-one
drive_here-requires-clause-one g c = λ κs within. carried-long (seeing g.S.Source.seen g.K.Sink.seen g.P.Plugin.rule g.P.Plugin.stands_for g.P.Plugin.preallocated) c.args.ring.now c.args.input.now c.drive_both.new.input c.drive_both.ensures.carried ∙ c.requires.one

pub drive_here-requires-clause-input : goal.drive_here-requires-clause-input
drive_here-requires-clause-input g c = λ κs within. still_ready (seeing g.S.Source.seen g.K.Sink.seen g.P.Plugin.rule g.P.Plugin.stands_for g.P.Plugin.preallocated) c.args.ring.now c.args.input.now c.drive_both.new.input c.drive_both.ensures.carried c.requires.input

pub drive_here-requires-clause-ready : goal.drive_here-requires-clause-ready
drive_here-requires-clause-ready g c = λ κs within.
    went_ready (seeing g.S.Source.seen g.K.Sink.seen g.P.Plugin.rule g.P.Plugin.stands_for g.P.Plugin.preallocated) c.args.ring.now (PrintsLines g.D.Desk.seen (g.L.LineTexts.text_of c.args.texts.now))
    (c.args.telling.now.printing, c.args.desk.now) (c.drive_both.new.telling.printing, c.drive_both.new.desk) c.args.telling.now.told c.drive_both.new.telling.told
    c.args.row.now c.drive_both.new.row c.drive_both.ensures.went c.requires.ready

pub drive_here-requires-clause-rows : goal.drive_here-requires-clause-rows
drive_here-requires-clause-rows g c = λ κs within. omega (arith, c.drive_both.ensures.rows, c.requires.rows, c.drive_both.ensures.went.long)

pub returns-clause-carried : goal.returns-clause-carried
returns-clause-carried g c =
    then_ (seeing g.S.Source.seen g.K.Sink.seen g.P.Plugin.rule g.P.Plugin.stands_for g.P.Plugin.preallocated) c.args.ring.now c.args.input.now c.drive_both.new.input c.drive_here.new.input c.drive_both.ensures.carried c.drive_here.ensures.carried

pub returns-clause-went : goal.returns-clause-went
returns-clause-went g c =
    let told = c.args.telling.now in let middle = c.drive_both.new.telling in let last = c.drive_here.new.telling in
    went_then (seeing g.S.Source.seen g.K.Sink.seen g.P.Plugin.rule g.P.Plugin.stands_for g.P.Plugin.preallocated) c.args.ring.now (PrintsLines g.D.Desk.seen (g.L.LineTexts.text_of c.args.texts.now))
    (told.printing, c.args.desk.now) (middle.printing, c.drive_both.new.desk) (last.printing, c.drive_here.new.desk) told.told middle.told last.told
    c.args.row.now c.drive_both.new.row c.drive_here.new.row c.drive_both.ensures.went c.drive_here.ensures.went
