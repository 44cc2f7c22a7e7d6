use Rattle.std.proofs.Common.{true, false, sym, ◌∙◌}
use Rattle.std.proofs.lemmas.Bool.{both_ways}
use Rattle.plug_psi.specs.InForce.{follows}
use Rattle.plug_psi.proofs.Choice.{neither}
use Rattle.plug_psi.proofs.ForceLemmas.{flag-is, same-followed, same-unfollowed}
use Rattle.plug_psi.proofs.in_force.InForce.read.Goals as goal

pub returns-then-not-is_followed-clause-stands : goal.returns-then-not-is_followed-clause-stands
returns-then-not-is_followed-clause-stands c = λ fed h.
    let pat = c.in_ok-pat_came.ensures.stands fed h.pat_fed in
    record {
      working = h.working;
      pat_fed = pat;
      entries = c.unfollowed_packets_change_nothing.ensures tt c.args.self.now.pids follows fed c.args.packet.now h.entries
          (flag-is c.take_first.new.zero fed c.args.packet.now c.pid-pid.result false pat c.pid-pid.ensures.field (sym c.is_followed.ensures ∙ c.if-not-is_followed.true));
    }

pub returns-then-not-is_followed-clause-same : goal.returns-then-not-is_followed-clause-same
returns-then-not-is_followed-clause-same c = λ none fed h.
    let pat = c.in_ok-pat_came.ensures.stands fed h.pat_fed in
    same-unfollowed fed c.args.packet.now (c.in_ok-pat_came.ensures.same none fed h.pat_fed)
    (flag-is c.take_first.new.zero fed c.args.packet.now c.pid-pid.result false pat c.pid-pid.ensures.field (sym c.is_followed.ensures ∙ c.if-not-is_followed.true))

pub returns-then-not-is_followed-clause-pats : goal.returns-then-not-is_followed-clause-pats
returns-then-not-is_followed-clause-pats c = λ fed h at. c.in_ok-pat_came.ensures.pats fed h.pat_fed at

pub returns-then-not-is_followed-clause-pmts : goal.returns-then-not-is_followed-clause-pmts
returns-then-not-is_followed-clause-pmts c = λ fed h taken.
    let pat = c.in_ok-pat_came.ensures.stands fed h.pat_fed in
    let flag = flag-is c.take_first.new.zero fed c.args.packet.now c.pid-pid.result false pat c.pid-pid.ensures.field (sym c.is_followed.ensures ∙ c.if-not-is_followed.true) in
    absurd (both_ways _ flag taken)

pub returns-clause-stands : goal.returns-clause-stands
returns-clause-stands c = λ fed h.
    let pat = c.in_ok-pat_came.ensures.stands fed h.pat_fed in
    record {
      working = h.working;
      pat_fed = pat;
      entries = c.in_ok-kept.ensures.stands follows fed h.entries
          (flag-is c.take_first.new.zero fed c.args.packet.now c.pid-pid.result true pat c.pid-pid.ensures.field (sym c.is_followed.ensures ∙ c.if-not-is_followed.false)) tt;
    }

pub returns-clause-same : goal.returns-clause-same
returns-clause-same c = λ none fed h.
    let pat = c.in_ok-pat_came.ensures.stands fed h.pat_fed in
    let came = neither _ _ (sym c.one_holds.ensures ∙ none) in
    same-followed fed c.args.packet.now (c.in_ok-pat_came.ensures.same came.0 fed h.pat_fed)
    (flag-is c.take_first.new.zero fed c.args.packet.now c.pid-pid.result true pat c.pid-pid.ensures.field (sym c.is_followed.ensures ∙ c.if-not-is_followed.false))
    (λ service. (c.in_ok-kept.ensures.tells follows fed h.entries tt service).same came.1)

pub returns-clause-pats : goal.returns-clause-pats
returns-clause-pats c = λ fed h at. c.in_ok-pat_came.ensures.pats fed h.pat_fed at

pub returns-clause-pmts : goal.returns-clause-pmts
returns-clause-pmts c = λ fed h flag. (c.in_ok-kept.ensures.tells follows fed h.entries tt 0).completes
