use Rattle.stage_run.specs.Seeing.{seeing}
use Rattle.chain_plays.proofs.SideLemmas.{present-ready, present-went}
use Rattle.chain_plays.proofs.driving.drive_side.Goals as goal

pub drive_all-requires-clause-ready : goal.drive_all-requires-clause-ready
drive_all-requires-clause-ready g c κs within =
    present-ready (seeing g.S.Source.seen g.K.Sink.seen g.P.Plugin.rule g.P.Plugin.stands_for g.P.Plugin.preallocated) c.args.ring.now c.args.next_ring.now c.args.side c.args.stages.now c.if-side-eq0.false c.requires

pub returns : goal.returns
returns g c =
    present-went (seeing g.S.Source.seen g.K.Sink.seen g.P.Plugin.rule g.P.Plugin.stands_for g.P.Plugin.preallocated) c.args.ring.now c.args.next_ring.now c.args.side c.args.stages.now c.drive_all.new.stages c.if-side-eq0.false c.drive_all.ensures.carried c.drive_all.ensures.ended
