use Rattle.std.proofs.Common.{Bool, sym, subst}
use Rattle.std.specs.Prelude.{slice_set}
use Rattle.stage_run.specs.Seeing.{seeing}
use Rattle.chain_live_threads.specs.Rows.{HaveEnded}
use Rattle.chain_live_threads.proofs.Carries.{same, first_ready, first_carried, over_kept, over_none}
use Rattle.chain_live_threads.proofs.round.serve_one.Goals as goal

pub returns-then-stages-clause-carried : goal.returns-then-stages-clause-carried
returns-then-stages-clause-carried g c = same (seeing g.S.Source.seen g.K.Sink.seen g.P.Plugin.rule g.P.Plugin.stands_for g.P.Plugin.preallocated) c.args.ring.now c.args.stages.now

pub returns-then-stages-clause-ended : goal.returns-then-stages-clause-ended
returns-then-stages-clause-ended g c = over_kept c.args.stages.now c.index-stages-0.result c.requires.one c.if-stages.true

pub serve-requires-clause-ready : goal.serve-requires-clause-ready
serve-requires-clause-ready g c = λ κs within.
    first_ready (seeing g.S.Source.seen g.K.Sink.seen g.P.Plugin.rule g.P.Plugin.stands_for g.P.Plugin.preallocated) c.args.ring.now c.args.stages.now c.index-stages-0-2.result c.requires.one c.requires.ready

pub returns-clause-carried : goal.returns-clause-carried
returns-clause-carried g c =
    first_carried (seeing g.S.Source.seen g.K.Sink.seen g.P.Plugin.rule g.P.Plugin.stands_for g.P.Plugin.preallocated) c.args.ring.now c.args.stages.now c.index-stages-0-2.result c.serve.new.self c.requires.one c.serve.ensures.keeps

pub returns-clause-ended : goal.returns-clause-ended
returns-clause-ended g c =
    subst (λ (b : Bool). HaveEnded b (slice_set c.args.stages.now 0 c.serve.new.self)) (sym c.round_of.ensures) (over_none (slice_set c.args.stages.now 0 c.serve.new.self))
