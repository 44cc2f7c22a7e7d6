use Rattle.stage_run.specs.Seeing.{seeing}
use Rattle.chain_tells.proofs.TellLemmas.{within-cut, whole, right}
use Rattle.chain_tells.proofs.laws.what_was_told_is_right.Goals as goal

pub returns : goal.returns
returns g c from made_from stuffing met_none made to made_to plan closed plugins name_of taken w told core parts cells tells closes =
    let see = (seeing g.S.Source.seen g.K.Sink.seen g.P.Plugin.rule g.P.Plugin.stands_for g.P.Plugin.preallocated) in (
      within-cut see c.machine_laws.ensures from made_from stuffing met_none made to made_to plan closed plugins name_of taken w told core parts cells tells closes,
      (
        whole see c.machine_laws.ensures from made_from stuffing met_none made to made_to plan closed plugins name_of taken w told core parts cells tells closes,
        right see c.machine_laws.ensures from made_from stuffing met_none made to made_to plan closed plugins name_of taken w told core parts cells tells closes,
      ),
    )
