use Rattle.plug_psi.specs.EditorStands.{edit_of}
use Rattle.plug_edit.proofs.Taking.{meets_dropped}
use Rattle.plug_edit.proofs.edit_pid.EditPidStepsSteps.pass_over.Goals as goal

pub returns-clause-meets : goal.returns-clause-meets
returns-clause-meets g c = λ history mark s count.
    let old = c.args.self.now in meets_dropped (g.E.TableEdit.change (edit_of old.editor)) old.editor old.pid mark old.found history s
