use Rattle.std.proofs.Common.{sym, ◌∙◌}
use Rattle.std.proofs.lemmas.Bool.{eqb-false}
use Rattle.ts_packet.specs.Header.{pid_of}
use Rattle.ts_demux.specs.TablesOn.{packets_on}
use Rattle.plug_psi.specs.KeptTables.{KeepsPat}
use Rattle.plug_psi.proofs.ForceLemmas.{pat-other, pat-same}
use Rattle.plug_psi.proofs.FoundLemmas.{other-pid, reads-other, reads-own}
use Rattle.plug_psi.proofs.in_force.take_first.Goals as goal

pub returns-then-pid-ne-PAT_PID-clause-stands : goal.returns-then-pid-ne-PAT_PID-clause-stands
returns-then-pid-ne-PAT_PID-clause-stands c = λ fed h.
    reads-other KeepsPat c.args.zero.now 0 fed c.args.packet.now (other-pid 0 c.pid.result c.args.packet.now c.pid.ensures.field c.if-pid-ne-PAT_PID.true) h

pub returns-then-pid-ne-PAT_PID-clause-pats : goal.returns-then-pid-ne-PAT_PID-clause-pats
returns-then-pid-ne-PAT_PID-clause-pats c = λ fed h at.
    absurd (eqb-false (pid_of c.args.packet.now) 0 (other-pid 0 c.pid.result c.args.packet.now c.pid.ensures.field c.if-pid-ne-PAT_PID.true) at)

pub returns-then-pid-ne-PAT_PID-clause-same : goal.returns-then-pid-ne-PAT_PID-clause-same
returns-then-pid-ne-PAT_PID-clause-same c = λ none fed h.
    pat-other fed c.args.packet.now (other-pid 0 c.pid.result c.args.packet.now c.pid.ensures.field c.if-pid-ne-PAT_PID.true)

pub returns-clause-stands : goal.returns-clause-stands
returns-clause-stands c = λ fed h.
    reads-own KeepsPat c.take.new.self 0 fed c.args.packet.now (sym c.pid.ensures.field ∙ c.if-pid-ne-PAT_PID.false)
    (c.in_ok-kept.ensures.stands tt 0 (packets_on 0 fed) h tt)

pub returns-clause-pats : goal.returns-clause-pats
returns-clause-pats c = λ fed h at. (c.in_ok-kept.ensures.tells tt 0 (packets_on 0 fed) h tt).completes

pub returns-clause-same : goal.returns-clause-same
returns-clause-same c = λ none fed h.
    pat-same fed c.args.packet.now c.in_ok-kept.kept (sym c.pid.ensures.field ∙ c.if-pid-ne-PAT_PID.false) (c.in_ok-kept.ensures.tells tt 0 (packets_on 0 fed) h tt) none
