use Rattle.stage_run.specs.Seeing.{seeing}
use Rattle.stage_run.specs.PartStands.{PartStands}
use Rattle.test_chain.proofs.FreshLemmas.{fresh-output}
use Rattle.test_chain.proofs.stages.output.Goals as goal

pub returns-clause-may : goal.returns-clause-may
returns-clause-may g c =
    fresh-output (PartStands (seeing g.S.Source.seen g.K.Sink.seen g.P.Plugin.rule g.P.Plugin.stands_for g.P.Plugin.preallocated) c.of_output.result) g.K.Sink.seen c.args.part c.of_output.ensures.stands
