use Rattle.stage_run.specs.Seeing.{seeing}
use Rattle.chain_tells.proofs.TellLemmas.{tells-still}
use Rattle.chain_tells.proofs.laws.a_round_tells_nothing.Goals as goal

pub returns : goal.returns
returns g c begun plugins name_of taken w told core core_new parts parts_new cells cells_new tells on =
    tells-still (seeing g.S.Source.seen g.K.Sink.seen g.P.Plugin.rule g.P.Plugin.stands_for g.P.Plugin.preallocated) begun plugins name_of c.machine_laws.ensures taken w told core parts cells tells
    core_new parts_new cells_new on
