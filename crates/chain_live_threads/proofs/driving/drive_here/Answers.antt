use Rattle.std.proofs.Common.{◌∙◌, arith, rules}
use Rattle.stage_run.specs.Seeing.{seeing}
use Rattle.chain_tells.specs.Printing.{PrintsLines}
use Rattle.chain_live_threads.proofs.Carries.{still_ready, then_}
use Rattle.chain_live_threads.proofs.WentLemmas.{carried-long, went_ready, went_then}
use Rattle.chain_live_threads.proofs.driving.drive_here.Goals as goal

pub serve_one-first-requires-clause-one : goal.serve_one-first-requires-clause-one
serve_one-first-requires-clause-one g c = λ κs within. carried-long (seeing g.S.Source.seen g.K.Sink.seen g.P.Plugin.rule g.P.Plugin.stands_for g.P.Plugin.preallocated) c.args.ring.now c.args.input.now c.loop.input c.loop.invariant.2 ∙ c.requires.one

pub serve_one-first-requires-clause-ready : goal.serve_one-first-requires-clause-ready
serve_one-first-requires-clause-ready g c = λ κs within.
    still_ready (seeing g.S.Source.seen g.K.Sink.seen g.P.Plugin.rule g.P.Plugin.stands_for g.P.Plugin.preallocated) c.args.ring.now c.args.input.now c.loop.input c.loop.invariant.2 c.requires.input

pub serve_and_tell-came-requires-clause-ready : goal.serve_and_tell-came-requires-clause-ready
serve_and_tell-came-requires-clause-ready g c = λ κs within.
    went_ready (seeing g.S.Source.seen g.K.Sink.seen g.P.Plugin.rule g.P.Plugin.stands_for g.P.Plugin.preallocated) c.args.ring.now (PrintsLines g.D.Desk.seen (g.L.LineTexts.text_of c.args.texts.now))
    (c.args.telling.now.printing, c.args.desk.now) (c.loop.telling.printing, c.loop.desk) c.args.telling.now.told c.loop.telling.told c.args.row.now c.loop.row c.loop.invariant.3 c.requires.ready

pub serve_and_tell-came-requires-clause-rows : goal.serve_and_tell-came-requires-clause-rows
serve_and_tell-came-requires-clause-rows g c = λ κs within. omega (arith, c.loop.invariant.4, c.requires.rows, c.loop.invariant.3.long)

pub loop-preserved : goal.loop-preserved
loop-preserved g c = (
  search rules,
  search rules,
  then_ (seeing g.S.Source.seen g.K.Sink.seen g.P.Plugin.rule g.P.Plugin.stands_for g.P.Plugin.preallocated) c.args.ring.now c.args.input.now c.loop.input c.serve_one-first.new.stages c.loop.invariant.2 c.serve_one-first.ensures.carried,
  went_then (seeing g.S.Source.seen g.K.Sink.seen g.P.Plugin.rule g.P.Plugin.stands_for g.P.Plugin.preallocated) c.args.ring.now (PrintsLines g.D.Desk.seen (g.L.LineTexts.text_of c.args.texts.now))
      (c.args.telling.now.printing, c.args.desk.now) (c.loop.telling.printing, c.loop.desk) (c.serve_and_tell-came.new.telling.printing, c.serve_and_tell-came.new.desk) c.args.telling.now.told c.loop.telling.told c.serve_and_tell-came.new.telling.told
      c.args.row.now c.loop.row c.serve_and_tell-came.new.row c.loop.invariant.3 c.serve_and_tell-came.ensures.went,
  c.serve_and_tell-came.ensures.rows ∙ c.loop.invariant.4,
)

pub loop-preserved-else-is_over-2 : goal.loop-preserved-else-is_over-2
loop-preserved-else-is_over-2 g c = (
  search rules,
  search rules,
  then_ (seeing g.S.Source.seen g.K.Sink.seen g.P.Plugin.rule g.P.Plugin.stands_for g.P.Plugin.preallocated) c.args.ring.now c.args.input.now c.loop.input c.serve_one-first.new.stages c.loop.invariant.2 c.serve_one-first.ensures.carried,
  went_then (seeing g.S.Source.seen g.K.Sink.seen g.P.Plugin.rule g.P.Plugin.stands_for g.P.Plugin.preallocated) c.args.ring.now (PrintsLines g.D.Desk.seen (g.L.LineTexts.text_of c.args.texts.now))
      (c.args.telling.now.printing, c.args.desk.now) (c.loop.telling.printing, c.loop.desk) (c.serve_and_tell-came.new.telling.printing, c.serve_and_tell-came.new.desk) c.args.telling.now.told c.loop.telling.told c.serve_and_tell-came.new.telling.told
      c.args.row.now c.loop.row c.serve_and_tell-came.new.row c.loop.invariant.3 c.serve_and_tell-came.ensures.went,
  c.serve_and_tell-came.ensures.rows ∙ c.loop.invariant.4,
)

pub returns-then-is_over-2-clause-went : goal.returns-then-is_over-2-clause-went
returns-then-is_over-2-clause-went g c =
    went_then (seeing g.S.Source.seen g.K.Sink.seen g.P.Plugin.rule g.P.Plugin.stands_for g.P.Plugin.preallocated) c.args.ring.now (PrintsLines g.D.Desk.seen (g.L.LineTexts.text_of c.args.texts.now))
    (c.args.telling.now.printing, c.args.desk.now) (c.loop.telling.printing, c.loop.desk) (c.serve_and_tell-came.new.telling.printing, c.serve_and_tell-came.new.desk) c.args.telling.now.told c.loop.telling.told c.serve_and_tell-came.new.telling.told
    c.args.row.now c.loop.row c.serve_and_tell-came.new.row c.loop.invariant.3 c.serve_and_tell-came.ensures.went
