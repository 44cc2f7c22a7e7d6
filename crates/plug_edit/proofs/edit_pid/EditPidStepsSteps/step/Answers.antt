use Rattle.std.proofs.Common.{sym, ◌∙◌, ap, arith, true≢false}
use Rattle.plug_psi.specs.EditorStands.{edit_of, has_failed}
use Rattle.plug_edit.proofs.Taking.{meets_other, meets_taken, other_pid, same_pid, not_true, null_pid}
use Rattle.plug_edit.proofs.edit_pid.EditPidStepsSteps.step.Goals as goal

pub returns-then-pid-self-clause-meets : goal.returns-then-pid-self-clause-meets
returns-then-pid-self-clause-meets g c = λ history mark s count.
    let old = c.args.self.now in
    meets_other (g.E.TableEdit.change (edit_of old.editor)) old.editor old.pid mark old.found history c.args.packet.now c.args._labels.now
    (other_pid old.pid c.args.packet.now (λ e. c.if-pid-self.true (c.pid.ensures.field ∙ e))) s

pub returns-then-self-ge-NULL_PID-clause-meets : goal.returns-then-self-ge-NULL_PID-clause-meets
returns-then-self-ge-NULL_PID-clause-meets g c = λ history mark s count.
    let old = c.args.self.now in
    meets_other (g.E.TableEdit.change (edit_of old.editor)) old.editor old.pid mark old.found history c.args.packet.now c.args._labels.now
    (null_pid old.pid c.args.packet.now c.if-self-ge-NULL_PID.true) s

pub returns-in-Ok-clause-meets : goal.returns-in-Ok-clause-meets
returns-in-Ok-clause-meets g c = λ history mark s count.
    let old = c.args.self.now in
    meets_taken (g.E.TableEdit.change (edit_of old.editor)) (g.E.TableEdit.change (edit_of c.step.new.self)) old.editor c.step.new.self old.pid mark c.args.at old.found c.meet.new.self c.has_altered.result history c.args.packet.now c.args._labels.now
    (same_pid old.pid c.args.packet.now (sym c.pid.ensures.field ∙ c.if-pid-self.false) (omega (arith, c.if-self-ge-NULL_PID.false))) (omega (arith, c.if-self-ge-NULL_PID.false)) (ap g.E.TableEdit.change (sym c.in-Ok.ensures.same_edit))
    (not_true (has_failed old.editor) (λ e. c.in-Ok.ensures.stays_spent e)) c.in-Ok.ensures.stands c.has_altered.ensures count c.meet.ensures s

pub returns-in-Err-clause-quiet : goal.returns-in-Err-clause-quiet
returns-in-Err-clause-quiet g c = λ none e.
    let old = c.args.self.now in
    let taken = same_pid old.pid c.args.packet.now (sym c.pid.ensures.field ∙ c.if-pid-self.false) (omega (arith, c.if-self-ge-NULL_PID.false)) in
    true≢false (sym taken ∙ none)
