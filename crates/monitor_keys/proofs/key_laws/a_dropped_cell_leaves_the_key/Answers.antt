use Rattle.ts_packet.specs.Cells.{Dropped}
use Rattle.monitor_keys.specs.Named.{begun_at}
use Rattle.monitor_keys.proofs.Keeping.{key_dropped}
use Rattle.monitor_keys.proofs.Naming.{still_kept}
use Rattle.monitor_keys.proofs.Seeing.{since_dropped}
use Rattle.monitor_keys.proofs.key_laws.a_dropped_cell_leaves_the_key.Goals as goal

pub returns-clause-key : goal.returns-clause-key
returns-clause-key c = λ rule key history is. key_dropped rule history key is

pub returns-clause-named : goal.returns-clause-named
returns-clause-named c = λ rule named kept history is same.
    still_kept rule named kept history Dropped is same (λ key w. key_dropped (begun_at rule key.from) history key w)

pub returns-clause-seen : goal.returns-clause-seen
returns-clause-seen c = λ pid kind kept history is. since_dropped pid kind history kept is
