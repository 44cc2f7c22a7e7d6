use Rattle.stage_run.specs.Seeing.{seeing}
use Rattle.chain_tells.proofs.TellLemmas.{tells-nothing}
use Rattle.chain_tells.proofs.laws.nothing_is_told_at_first.Goals as goal

pub returns : goal.returns
returns g c begun plugins name_of core parts cells rules names goes =
    tells-nothing (seeing g.S.Source.seen g.K.Sink.seen g.P.Plugin.rule g.P.Plugin.stands_for g.P.Plugin.preallocated) begun plugins name_of core parts cells rules names goes
