use Rattle.stage_run.specs.Seeing.{seeing}
use Rattle.stage_run.specs.PartStands.{PartStands}
use Rattle.test_chain.proofs.FreshLemmas.{fresh-input}
use Rattle.test_chain.proofs.stages.input.Goals as goal

pub returns-clause-may : goal.returns-clause-may
returns-clause-may g c =
    fresh-input (PartStands (seeing g.S.Source.seen g.K.Sink.seen g.P.Plugin.rule g.P.Plugin.stands_for g.P.Plugin.preallocated) c.of_input.result) g.S.Source.seen c.args.part c.of_input.ensures.stands
