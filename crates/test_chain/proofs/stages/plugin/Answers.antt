use Rattle.stage_run.specs.Seeing.{seeing}
use Rattle.stage_run.specs.PartStands.{PartStands}
use Rattle.test_chain.proofs.FreshLemmas.{any-source, any-sink, fresh-works}
use Rattle.test_chain.proofs.stages.plugin.Goals as goal

pub returns-clause-may : goal.returns-clause-may
returns-clause-may g c =
    fresh-works (PartStands (seeing g.S.Source.seen g.K.Sink.seen g.P.Plugin.rule g.P.Plugin.stands_for g.P.Plugin.preallocated) c.of_plugin.result) any-source any-sink
    (c.of_plugin.ensures.stands any-source any-sink 0 c.requires.fresh)
