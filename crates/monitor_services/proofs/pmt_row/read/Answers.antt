use Rattle.std.proofs.Common.{ap, sym, ◌∙◌, ℕ, [], ◌∷◌, ◌++◌}
use Rattle.std.proofs.lemmas.Bool.{eq-eqb}
use Rattle.ts_packet.specs.declared.numbers.TheConstants.{NULL_PID}
use Rattle.ts_packet.specs.Header.{pid_of}
use Rattle.plug_psi.specs.InForce.{follows}
use Rattle.monitor_services.proofs.Naming.{no-pmts, null-unfollowed, pmts-of}
use Rattle.monitor_services.proofs.pmt_row.read.Goals as goal

pub returns-then-pid-eq-NULL_PID-clause-stands : goal.returns-then-pid-eq-NULL_PID-clause-stands
returns-then-pid-eq-NULL_PID-clause-stands c = λ fed read forced.
    c.unfollowed_packets_change_nothing.ensures tt c.args.readers.now follows fed c.args.packet.now read
    (null-unfollowed (fed ++ c.args.packet.now ∷ []) (pid_of c.args.packet.now)
    (eq-eqb (pid_of c.args.packet.now) NULL_PID (sym c.pid-pid.ensures.field ∙ c.if-pid-eq-NULL_PID.true)))

pub returns-then-pid-eq-NULL_PID-clause-gives : goal.returns-then-pid-eq-NULL_PID-clause-gives
returns-then-pid-eq-NULL_PID-clause-gives c = λ fed read forced.
    c.new.ensures.items
    ∙ no-pmts fed c.args.packet.now
    (null-unfollowed (fed ++ c.args.packet.now ∷ []) (pid_of c.args.packet.now)
    (eq-eqb (pid_of c.args.packet.now) NULL_PID (sym c.pid-pid.ensures.field ∙ c.if-pid-eq-NULL_PID.true)))

pub returns-then-not-follows-clause-stands : goal.returns-then-not-follows-clause-stands
returns-then-not-follows-clause-stands c = λ fed read forced.
    c.unfollowed_packets_change_nothing.ensures tt c.args.readers.now follows fed c.args.packet.now read
    (ap (λ (pid : ℕ). follows pid (fed ++ c.args.packet.now ∷ [])) (sym c.pid-pid.ensures.field) ∙ (sym (c.follows.ensures _ forced) ∙ c.if-not-follows.true))

pub returns-then-not-follows-clause-gives : goal.returns-then-not-follows-clause-gives
returns-then-not-follows-clause-gives c = λ fed read forced.
    c.new-then-not-follows.ensures.items
    ∙ no-pmts fed c.args.packet.now
    (ap (λ (pid : ℕ). follows pid (fed ++ c.args.packet.now ∷ [])) (sym c.pid-pid.ensures.field) ∙ (sym (c.follows.ensures _ forced) ∙ c.if-not-follows.true))

pub returns-clause-stands : goal.returns-clause-stands
returns-clause-stands c = λ fed read forced.
    c.in_ok-came.ensures.stands follows fed read
    (ap (λ (pid : ℕ). follows pid (fed ++ c.args.packet.now ∷ [])) (sym c.pid-pid.ensures.field) ∙ (sym (c.follows.ensures _ forced) ∙ c.if-not-follows.false))
    tt

pub returns-clause-gives : goal.returns-clause-gives
returns-clause-gives c = λ fed read forced.
    pmts-of fed c.args.packet.now c.deref.result.now c.in_ok-numbers.numbers.items c.pid-pid.result c.pid-pid.ensures.field
    (ap (λ (pid : ℕ). follows pid (fed ++ c.args.packet.now ∷ [])) (sym c.pid-pid.ensures.field) ∙ (sym (c.follows.ensures _ forced) ∙ c.if-not-follows.false))
    (c.deref.ensures.value ∙ c.in_ok-came.ensures.tells follows fed read tt) c.in_ok-numbers.ensures
