use Rattle.chain_model.specs.Stuffed.{no_stuffing}
use Rattle.chain_plays.proofs.AbandonLemmas.{leaves_abandoned}
use Rattle.chain_plays.proofs.abandoning.source_of.Goals as goal

pub returns : goal.returns
returns g c = λ lists told stands stuffing.
    leaves_abandoned no_stuffing lists.source (g.S.Source.seen c.in-Stream.source) lists told (c.in-Stream.ensures.leaves lists told no_stuffing stands stuffing)
