use Rattle.varied_edits.proofs.PidsVary.{vary-untaken}
use Rattle.varied_edits.proofs.varied_laws.untaken_packets_change_nothing.Goals as goal

pub returns : goal.returns
returns g c = λ pids follows wanted met packet h flag. vary-untaken g.E.TableEdit.change follows wanted pids.entries met packet h flag
