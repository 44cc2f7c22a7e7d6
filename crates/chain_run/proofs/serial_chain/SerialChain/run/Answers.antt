use Rattle.std.proofs.Common.{refl, ◌∙◌}
use Rattle.stage_run.specs.Seeing.{seeing}
use Rattle.chain_run.proofs.TurnLaws.{rests-there, ran-twice}
use Rattle.chain_run.proofs.serial_chain.SerialChain.run.Goals as goal

pub loop-init : goal.loop-init
loop-init g c =
    let chain = c.args.self.now in
    record {
      runs = λ begun goes. rests-there (seeing g.S.Source.seen g.K.Sink.seen g.P.Plugin.rule g.P.Plugin.stands_for g.P.Plugin.preallocated) begun chain.core chain.parts.items chain.cells.items goes;
      plan = refl;
      next = c.requires.some;
    }

pub round-requires-clause-runs : goal.round-requires-clause-runs
round-requires-clause-runs g c κs within = (c.requires.runs.0, (c.loop.invariant.runs c.requires.runs.0 c.requires.runs.1).now)

pub returns-clause-runs : goal.returns-clause-runs
returns-clause-runs g c = λ begun goes.
    let first = c.loop.invariant.runs begun goes in
    ran-twice (seeing g.S.Source.seen g.K.Sink.seen g.P.Plugin.rule g.P.Plugin.stands_for g.P.Plugin.preallocated) begun goes.runs.visits
    c.loop.self.core c.round.new.self.core c.loop.self.parts.items c.round.new.self.parts.items c.loop.self.cells.items c.round.new.self.cells.items
    first (c.round.ensures.runs begun first.now)

pub loop-preserved : goal.loop-preserved
loop-preserved g c = record {
  runs = λ begun goes. let first = c.loop.invariant.runs begun goes in
      ran-twice (seeing g.S.Source.seen g.K.Sink.seen g.P.Plugin.rule g.P.Plugin.stands_for g.P.Plugin.preallocated) begun goes.runs.visits
      c.loop.self.core c.round.new.self.core c.loop.self.parts.items c.round.new.self.parts.items c.loop.self.cells.items c.round.new.self.cells.items
      first (c.round.ensures.runs begun first.now);
  plan = c.round.ensures.plan ∙ c.loop.invariant.plan;
  next = c.round.ensures.next;
}
