use Rattle.std.proofs.Common.{◌∙◌, rules}
use Rattle.stage_run.specs.Seeing.{seeing}
use Rattle.chain_tells.specs.Printing.{PrintsLines}
use Rattle.chain_live_threads.proofs.WentLemmas.{went_ready, went_then}
use Rattle.chain_live_threads.proofs.driving.drive_row.Goals as goal

pub serve_and_tell-requires-clause-ready : goal.serve_and_tell-requires-clause-ready
serve_and_tell-requires-clause-ready g c = λ κs within.
    went_ready (seeing g.S.Source.seen g.K.Sink.seen g.P.Plugin.rule g.P.Plugin.stands_for g.P.Plugin.preallocated) c.args.ring.now (PrintsLines g.D.Desk.seen (g.L.LineTexts.text_of c.args.texts.now))
    (c.args.telling.now.printing, c.args.desk.now) (c.loop.telling.printing, c.loop.desk) c.args.telling.now.told c.loop.telling.told c.args.row.now c.loop.row c.loop.invariant.2 c.requires.ready

pub serve_and_tell-requires-clause-rows : goal.serve_and_tell-requires-clause-rows
serve_and_tell-requires-clause-rows g c = λ κs within. omega (Rattle.std.proofs.Common.arith, c.loop.invariant.3, c.requires.rows, c.loop.invariant.2.long)

pub loop-preserved : goal.loop-preserved
loop-preserved g c = (
  search rules,
  search rules,
  went_then (seeing g.S.Source.seen g.K.Sink.seen g.P.Plugin.rule g.P.Plugin.stands_for g.P.Plugin.preallocated) c.args.ring.now (PrintsLines g.D.Desk.seen (g.L.LineTexts.text_of c.args.texts.now))
      (c.args.telling.now.printing, c.args.desk.now) (c.loop.telling.printing, c.loop.desk) (c.serve_and_tell.new.telling.printing, c.serve_and_tell.new.desk) c.args.telling.now.told c.loop.telling.told c.serve_and_tell.new.telling.told
      c.args.row.now c.loop.row c.serve_and_tell.new.row c.loop.invariant.2 c.serve_and_tell.ensures.went,
  c.serve_and_tell.ensures.rows ∙ c.loop.invariant.3,
)

pub loop-preserved-in-Idle : goal.loop-preserved-in-Idle
loop-preserved-in-Idle g c = (
  search rules,
  search rules,
  went_then (seeing g.S.Source.seen g.K.Sink.seen g.P.Plugin.rule g.P.Plugin.stands_for g.P.Plugin.preallocated) c.args.ring.now (PrintsLines g.D.Desk.seen (g.L.LineTexts.text_of c.args.texts.now))
      (c.args.telling.now.printing, c.args.desk.now) (c.loop.telling.printing, c.loop.desk) (c.serve_and_tell.new.telling.printing, c.serve_and_tell.new.desk) c.args.telling.now.told c.loop.telling.told c.serve_and_tell.new.telling.told
      c.args.row.now c.loop.row c.serve_and_tell.new.row c.loop.invariant.2 c.serve_and_tell.ensures.went,
  c.serve_and_tell.ensures.rows ∙ c.loop.invariant.3,
)

pub returns-in-Over-clause-went : goal.returns-in-Over-clause-went
returns-in-Over-clause-went g c =
    went_then (seeing g.S.Source.seen g.K.Sink.seen g.P.Plugin.rule g.P.Plugin.stands_for g.P.Plugin.preallocated) c.args.ring.now (PrintsLines g.D.Desk.seen (g.L.LineTexts.text_of c.args.texts.now))
    (c.args.telling.now.printing, c.args.desk.now) (c.loop.telling.printing, c.loop.desk) (c.serve_and_tell.new.telling.printing, c.serve_and_tell.new.desk) c.args.telling.now.told c.loop.telling.told c.serve_and_tell.new.telling.told
    c.args.row.now c.loop.row c.serve_and_tell.new.row c.loop.invariant.2 c.serve_and_tell.ensures.went
