use Rattle.std.proofs.Common.{[], ◌∷◌, ◌++◌, sym, ◌∙◌, ap}
use Rattle.plug_eit.specs.EitEdit.{edited_section}
use Rattle.plug_eit.specs.EitRule.{eit_edit}
use Rattle.plug_eit.specs.declared.numbers.TheConstants.{EIT_PID}
use Rattle.plug_eit.proofs.Taking.{made-other, made-own, noted-other, noted-own, other_pid, same_pid}
use Rattle.plug_eit.proofs.eit.EitSteps.advance.Goals as goal

pub returns-then-pid-ne-EIT_PID-clause-made : goal.returns-then-pid-ne-EIT_PID-clause-made
returns-then-pid-ne-EIT_PID-clause-made c = λ met h.
    made-other c.args.self.now.edit.conf met c.args.packet.now (other_pid c.args.packet.now (λ e. c.if-pid-ne-EIT_PID.true (c.pid.ensures.field ∙ e)))

pub returns-then-pid-ne-EIT_PID-clause-stands : goal.returns-then-pid-ne-EIT_PID-clause-stands
returns-then-pid-ne-EIT_PID-clause-stands c = λ met h.
    let conf = c.args.self.now.edit.conf in
    record {
      named = c.in_ok-meet.ensures.stands conf.service met h.named;
      flows = c.packets_of_other_pids_change_nothing.ensures c.args.self.now.flow EIT_PID (eit_edit conf) met c.args.packet.now h.flows
          (other_pid c.args.packet.now (λ e. c.if-pid-ne-EIT_PID.true (c.pid.ensures.field ∙ e)));
    }

pub returns-then-pid-ne-EIT_PID-clause-found : goal.returns-then-pid-ne-EIT_PID-clause-found
returns-then-pid-ne-EIT_PID-clause-found c = λ met h.
    noted-other c.args.self.now.edit.conf met c.args.packet.now c.args.self.now.found c.args.at
    (other_pid c.args.packet.now (λ e. c.if-pid-ne-EIT_PID.true (c.pid.ensures.field ∙ e)))

pub returns-clause-made : goal.returns-clause-made
returns-clause-made c = λ met h.
    let conf = c.args.self.now.edit.conf in
    let number = c.number-self.ensures conf.service (met ++ c.args.packet.now ∷ []) (c.in_ok-meet.ensures.stands conf.service met h.named) in
    made-own conf met c.args.packet.now (same_pid c.args.packet.now (sym c.pid.ensures.field ∙ c.if-pid-ne-EIT_PID.false)) c.step.new.packet
    (c.in_ok-step.ensures.replaced EIT_PID (eit_edit conf) met h.flows (λ section. ap (λ n. edited_section conf n section) number))

pub returns-clause-stands : goal.returns-clause-stands
returns-clause-stands c = λ met h.
    let conf = c.args.self.now.edit.conf in
    let named = c.in_ok-meet.ensures.stands conf.service met h.named in
    let number = c.number-self.ensures conf.service (met ++ c.args.packet.now ∷ []) named in
    record {
      named = named;
      flows = c.in_ok-step.ensures.stands EIT_PID (eit_edit conf) met h.flows (λ section. ap (λ n. edited_section conf n section) number);
    }

pub returns-clause-found : goal.returns-clause-found
returns-clause-found c = λ met h.
    let conf = c.args.self.now.edit.conf in
    let number = c.number-self.ensures conf.service (met ++ c.args.packet.now ∷ []) (c.in_ok-meet.ensures.stands conf.service met h.named) in
    noted-own conf met c.args.packet.now c.args.self.now.found c.meet-2.new.self c.args.at c.has_altered.result
    (same_pid c.args.packet.now (sym c.pid.ensures.field ∙ c.if-pid-ne-EIT_PID.false)) c.meet-2.ensures
    (c.has_altered.ensures ∙ c.in_ok-step.ensures.altered EIT_PID (eit_edit conf) met h.flows (λ section. ap (λ n. edited_section conf n section) number))
