use Rattle.varied_edits.proofs.PidsVary.{vary-new}
use Rattle.varied_edits.proofs.varied_pids.VariedPids.new.Goals as goal

pub returns : goal.returns
returns g c = λ follows wanted. vary-new g.E.TableEdit.change follows wanted c.new.result c.new.ensures.empty
