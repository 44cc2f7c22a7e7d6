use Rattle.std.proofs.Common.{arith}
use Rattle.stage_run.specs.Seeing.{seeing}
use Rattle.chain_tells.specs.Printing.{PrintsLines}
use Rattle.chain_live_threads.proofs.AllLemmas.{first-ready, rest-ready, all-went}
use Rattle.chain_live_threads.proofs.two_threads.drive_all.Goals as goal

pub drive_stages-requires-clause-input : goal.drive_stages-requires-clause-input
drive_stages-requires-clause-input g c = λ κs within.
    let s = c.split_at_mut-input in
    first-ready (seeing g.S.Source.seen g.K.Sink.seen g.P.Plugin.rule g.P.Plugin.stands_for g.P.Plugin.preallocated) c.args.ring.now c.args.telling.now.told c.args.stages.now s.result.0.now s.result.1.now s.ensures.value (omega arith) c.requires.ready

pub drive_stages-requires-clause-ready : goal.drive_stages-requires-clause-ready
drive_stages-requires-clause-ready g c = λ κs within.
    let s = c.split_at_mut-input in
    rest-ready (seeing g.S.Source.seen g.K.Sink.seen g.P.Plugin.rule g.P.Plugin.stands_for g.P.Plugin.preallocated) c.args.ring.now c.args.telling.now.told c.args.stages.now s.result.0.now s.result.1.now s.ensures.value (omega arith) c.requires.ready

pub returns-clause-went : goal.returns-clause-went
returns-clause-went g c =
    let s = c.split_at_mut-input in
    let d = c.drive_stages in
    all-went (seeing g.S.Source.seen g.K.Sink.seen g.P.Plugin.rule g.P.Plugin.stands_for g.P.Plugin.preallocated) c.args.ring.now (PrintsLines g.D.Desk.seen (g.L.LineTexts.text_of c.args.texts.now)) (c.args.telling.now.printing, c.args.desk.now) (d.new.telling.printing, d.new.desk) c.args.telling.now.told d.new.telling.told
    c.args.stages.now s.result.0.now d.new.input s.result.1.now d.new.row s.ensures.value (omega arith) d.ensures.carried d.ensures.went d.ensures.input_ended d.ensures.ended
