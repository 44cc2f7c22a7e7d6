use Rattle.plug_psi.specs.KeptTables.{KeepsCat}
use Rattle.plug_psi.proofs.NamedLemmas.{cat-other}
use Rattle.plug_psi.proofs.FoundLemmas.{other-pid, reads-other}
use Rattle.plug_psi.proofs.referred.take_cats.Goals as goal

pub returns-then-pid-ne-CAT_PID-clause-stands : goal.returns-then-pid-ne-CAT_PID-clause-stands
returns-then-pid-ne-CAT_PID-clause-stands c = λ fed h.
    reads-other KeepsCat c.args.one.now 1 fed c.args.packet.now (other-pid 1 c.pid.result c.args.packet.now c.pid.ensures.field c.if-pid-ne-CAT_PID.true) h

pub returns-then-pid-ne-CAT_PID-clause-same : goal.returns-then-pid-ne-CAT_PID-clause-same
returns-then-pid-ne-CAT_PID-clause-same c = λ none fed h.
    cat-other fed c.args.packet.now (other-pid 1 c.pid.result c.args.packet.now c.pid.ensures.field c.if-pid-ne-CAT_PID.true)
