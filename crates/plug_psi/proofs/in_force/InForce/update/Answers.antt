use Rattle.std.proofs.Common.{sym, ◌∙◌, true≢false}
use Rattle.std.proofs.lemmas.Bool.{both_ways, eqb-false}
use Rattle.ts_packet.specs.Header.{pid_of}
use Rattle.plug_psi.specs.InForce.{follows}
use Rattle.plug_psi.proofs.ForceLemmas.{none-comes, same-unfollowed, unread}
use Rattle.plug_psi.proofs.in_force.InForce.update.Goals as goal

pub returns-then-not-may_have_tables-clause-stands : goal.returns-then-not-may_have_tables-clause-stands
returns-then-not-may_have_tables-clause-stands c = λ fed h.
    let u = unread c.args.self.now.zero fed c.args.packet.now c.pid-pid.result h.pat_fed c.pid-pid.ensures.field (sym c.may_have_tables.ensures ∙ c.if-not-may_have_tables.true) in
    record {
      working = h.working;
      pat_fed = u.pat_fed;
      entries = c.unfollowed_packets_change_nothing.ensures tt c.args.self.now.pids follows fed c.args.packet.now h.entries u.flag;
    }

pub returns-then-not-may_have_tables-clause-same : goal.returns-then-not-may_have_tables-clause-same
returns-then-not-may_have_tables-clause-same c = λ none fed h.
    let u = unread c.args.self.now.zero fed c.args.packet.now c.pid-pid.result h.pat_fed c.pid-pid.ensures.field (sym c.may_have_tables.ensures ∙ c.if-not-may_have_tables.true) in
    same-unfollowed fed c.args.packet.now u.same u.flag

pub returns-then-not-may_have_tables-clause-pats : goal.returns-then-not-may_have_tables-clause-pats
returns-then-not-may_have_tables-clause-pats c = λ fed h at.
    let u = unread c.args.self.now.zero fed c.args.packet.now c.pid-pid.result h.pat_fed c.pid-pid.ensures.field (sym c.may_have_tables.ensures ∙ c.if-not-may_have_tables.true) in
    absurd (eqb-false (pid_of c.args.packet.now) 0 u.other at)

pub returns-then-not-may_have_tables-clause-pmts : goal.returns-then-not-may_have_tables-clause-pmts
returns-then-not-may_have_tables-clause-pmts c = λ fed h taken.
    let u = unread c.args.self.now.zero fed c.args.packet.now c.pid-pid.result h.pat_fed c.pid-pid.ensures.field (sym c.may_have_tables.ensures ∙ c.if-not-may_have_tables.true) in
    absurd (both_ways _ u.flag taken)

pub returns-in_err-check-clause-quiet : goal.returns-in_err-check-clause-quiet
returns-in_err-check-clause-quiet c = λ fed h none. absurd (true≢false (sym c.in_err-check.ensures.set ∙ h.working))

pub returns-in_err-came-clause-quiet : goal.returns-in_err-came-clause-quiet
returns-in_err-came-clause-quiet c = λ fed h none.
    absurd (none-comes c.args.self.now.zero fed c.args.packet.now c.pid-pid.result h.pat_fed c.pid-pid.ensures.field
    (sym c.may_have_tables.ensures ∙ c.if-not-may_have_tables.false) none)

pub returns-clause-quiet : goal.returns-clause-quiet
returns-clause-quiet c = λ fed h none.
    absurd (none-comes c.args.self.now.zero fed c.args.packet.now c.pid-pid.result h.pat_fed c.pid-pid.ensures.field
    (sym c.may_have_tables.ensures ∙ c.if-not-may_have_tables.false) none)
