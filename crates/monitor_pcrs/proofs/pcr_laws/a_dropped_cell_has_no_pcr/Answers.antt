use Rattle.monitor_pcrs.proofs.KeptClocks.{remembers_dropped}
use Rattle.monitor_pcrs.proofs.pcr_laws.a_dropped_cell_has_no_pcr.Goals as goal

pub returns : goal.returns
returns c = λ steps history r. remembers_dropped steps history r
