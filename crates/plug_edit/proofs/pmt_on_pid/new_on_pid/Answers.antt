use Rattle.std.proofs.Common.{refl}
use Rattle.plug_edit.proofs.GoesLemmas.{same_without}
use Rattle.plug_edit.proofs.pmt_on_pid.new_on_pid.Goals as goal

pub returns-clause-rule : goal.returns-clause-rule
returns-clause-rule g c =
    same_without c.args.dropped c.args.dropped c.args.stuffing c.in_ok-editor.editor.pid c.args.pid _ _ refl c.in_ok-editor.ensures.pid c.in_ok-editor.ensures.rule
