use Rattle.std.proofs.Common.{subst, sym, ◌∙◌}
use Rattle.std.specs.Prelude.{slice_set}
use Rattle.stage_run.specs.Seeing.{seeing}
use Rattle.chain_threads.specs.Driving.{HaveEnded}
use Rattle.chain_threads.proofs.Carries.{first_ready, first_carried, over_one}
use Rattle.chain_threads.proofs.driving.serve_first.Goals as goal

pub serve-requires-after_bounds : goal.serve-requires-after_bounds
serve-requires-after_bounds g c = λ κs within.
    first_ready (seeing g.S.Source.seen g.K.Sink.seen g.P.Plugin.rule g.P.Plugin.stands_for g.P.Plugin.preallocated) c.args.ring.now c.args.stages.now c.index-stages-0.result c.requires.one c.requires.ready

pub returns-clause-carried : goal.returns-clause-carried
returns-clause-carried g c =
    first_carried (seeing g.S.Source.seen g.K.Sink.seen g.P.Plugin.rule g.P.Plugin.stands_for g.P.Plugin.preallocated) c.args.ring.now c.args.stages.now c.index-stages-0.result c.serve.new.self c.requires.one c.serve.ensures.keeps

pub returns-clause-ended : goal.returns-clause-ended
returns-clause-ended g c =
    subst (λ b. HaveEnded b (slice_set c.args.stages.now 0 c.serve.new.self)) (c.serve.ensures.over ∙ sym c.ends.ensures)
    (over_one c.args.stages.now c.serve.new.self c.requires.one)
