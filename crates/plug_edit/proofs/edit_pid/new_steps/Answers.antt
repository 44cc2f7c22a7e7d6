use Rattle.plug_edit.proofs.Taking.{fresh-stands}
use Rattle.plug_edit.proofs.edit_pid.new_steps.Goals as goal

pub returns-clause-fresh : goal.returns-clause-fresh
returns-clause-fresh g c =
    fresh-stands g.E.TableEdit.change c.in_ok-editor.editor c.args.edit c.args.pid c.none.result c.in_ok-editor.ensures.edit c.in_ok-editor.ensures.fresh c.none.ensures
