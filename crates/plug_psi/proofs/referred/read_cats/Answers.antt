use Rattle.ts_demux.specs.TablesOn.{packets_on}
use Rattle.plug_psi.specs.KeptTables.{KeepsCat}
use Rattle.plug_psi.proofs.NamedLemmas.{cat-same}
use Rattle.plug_psi.proofs.FoundLemmas.{reads-own}
use Rattle.plug_psi.proofs.referred.read_cats.Goals as goal

pub returns-clause-stands : goal.returns-clause-stands
returns-clause-stands c = λ fed h.
    reads-own KeepsCat c.take.new.self 1 fed c.args.packet.now c.requires (c.in_ok-kept.ensures.stands tt 1 (packets_on 1 fed) h tt)

pub returns-clause-same : goal.returns-clause-same
returns-clause-same c = λ none fed h. cat-same fed c.args.packet.now c.in_ok-kept.kept c.requires (c.in_ok-kept.ensures.tells tt 1 (packets_on 1 fed) h tt) none
