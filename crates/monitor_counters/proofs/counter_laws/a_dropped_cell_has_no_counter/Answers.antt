use Rattle.monitor_counters.proofs.KeptPackets.{remembers_dropped}
use Rattle.monitor_counters.proofs.counter_laws.a_dropped_cell_has_no_counter.Goals as goal

pub returns : goal.returns
returns c = λ kept history r. remembers_dropped kept history r
