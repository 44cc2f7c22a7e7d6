use Rattle.std.proofs.Common.{ap, sym, ◌∙◌, ℕ, [], ◌∷◌, ◌++◌}
use Rattle.plug_psi.specs.InForce.{follows}
use Rattle.plug_psi.proofs.FoundLemmas.{other-pid}
use Rattle.plug_psi.proofs.ForceLemmas.{pat-other, same-unfollowed}
use Rattle.monitor_services.proofs.tables_come.may_bring_tables.Goals as goal

pub returns-clause-same : goal.returns-clause-same
returns-clause-same c = λ none fed forced.
    same-unfollowed fed c.args.packet.now
    (pat-other fed c.args.packet.now (other-pid 0 c.pid-pid.result c.args.packet.now c.pid-pid.ensures.field c.if-pid-eq-PAT_PID.false))
    (ap (λ (pid : ℕ). follows pid (fed ++ c.args.packet.now ∷ [])) (sym c.pid-pid.ensures.field) ∙ (sym (c.follows.ensures _ forced) ∙ none))

pub returns-clause-unfollowed : goal.returns-clause-unfollowed
returns-clause-unfollowed c = λ none fed forced.
    ap (λ (pid : ℕ). follows pid (fed ++ c.args.packet.now ∷ [])) (sym c.pid-pid.ensures.field) ∙ (sym (c.follows.ensures _ forced) ∙ none)
