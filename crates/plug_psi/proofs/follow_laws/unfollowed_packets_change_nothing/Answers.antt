use Rattle.plug_psi.proofs.EntryLemmas.{stands-untaken}
use Rattle.plug_psi.proofs.follow_laws.unfollowed_packets_change_nothing.Goals as goal

pub returns : goal.returns
returns g c = λ seed by follows met packet h flag. stands-untaken (g.T.Follows.stands seed) follows by.entries met packet h flag
