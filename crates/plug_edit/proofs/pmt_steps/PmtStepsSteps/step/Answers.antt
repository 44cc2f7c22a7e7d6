use Rattle.std.proofs.Common.{sym, ◌∙◌}
use Rattle.ts_packet.specs.Cells.{Live}
use Rattle.plug_psi.specs.EditorStands.{edit_of}
use Rattle.plug_edit.specs.EditState.{rule_of}
use Rattle.plug_edit.specs.PmtRule.{without_pids}
use Rattle.plug_edit.proofs.GoesLemmas.{goes_untaken, stays_as, tells_alike}
use Rattle.plug_edit.proofs.Taking.{meets_other}
use Rattle.plug_edit.proofs.pmt_steps.PmtStepsSteps.step.Goals as goal

pub returns-then-not-goes-clause-tells : goal.returns-then-not-goes-clause-tells
returns-then-not-goes-clause-tells g c = λ history mark s count.
    let old = c.args.self.now in
    tells_alike (rule_of g.E.TableEdit.change old.editor) (without_pids old.dropped old.stuffing old.editor.pid (rule_of g.E.TableEdit.change old.editor)) history (Live c.args.packet.now c.args.labels.now)
    (stays_as (rule_of g.E.TableEdit.change old.editor) old.dropped old.stuffing old.editor.pid history c.args.packet.now c.args.labels.now (sym c.goes.ensures ∙ c.if-not-goes.true)) c.step.result _
    (c.step.ensures.tells history mark s count)

pub returns-then-self-clause-meets : goal.returns-then-self-clause-meets
returns-then-self-clause-meets g c = λ history mark s count.
    let old = c.args.self.now in
    meets_other (g.E.TableEdit.change (edit_of old.editor.editor)) old.editor.editor old.editor.pid mark old.editor.found history c.args.packet.now c.args.labels.now
    (goes_untaken old.dropped old.editor.pid c.args.packet.now (sym c.goes.ensures ∙ c.if-not-goes.false)) s

pub returns-clause-meets : goal.returns-clause-meets
returns-clause-meets g c = λ history mark s count.
    let old = c.args.self.now in
    meets_other (g.E.TableEdit.change (edit_of old.editor.editor)) old.editor.editor old.editor.pid mark old.editor.found history c.args.packet.now c.args.labels.now
    (goes_untaken old.dropped old.editor.pid c.args.packet.now (sym c.goes.ensures ∙ c.if-not-goes.false)) s
