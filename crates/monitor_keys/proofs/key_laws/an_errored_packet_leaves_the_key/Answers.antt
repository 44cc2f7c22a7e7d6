use Rattle.ts_packet.specs.Cells.{Live}
use Rattle.monitor_keys.specs.Named.{begun_at}
use Rattle.monitor_keys.proofs.Keeping.{gap_quiet, key_quiet}
use Rattle.monitor_keys.proofs.Naming.{still_kept}
use Rattle.monitor_keys.proofs.Reading.{errored-no_look}
use Rattle.monitor_keys.proofs.key_laws.an_errored_packet_leaves_the_key.Goals as goal

pub returns-clause-unread : goal.returns-clause-unread
returns-clause-unread c = λ pid history packet errored. errored-no_look pid history packet errored

pub returns-clause-stands : goal.returns-clause-stands
returns-clause-stands c = λ rule key history packet labels is errored no_occurrence.
    key_quiet rule key history packet labels is (errored-no_look rule.pcr_pid history packet errored) no_occurrence

pub returns-clause-named : goal.returns-clause-named
returns-clause-named c = λ rule named kept history packet labels is same errored no_occurrence.
    still_kept rule named kept history (Live packet labels) is same
    (λ key w. key_quiet (begun_at rule key.from) key history packet labels w (errored-no_look rule.pcr_pid history packet errored) no_occurrence)

pub returns-clause-tells : goal.returns-clause-tells
returns-clause-tells c = λ rule history packet errored. gap_quiet rule history packet (errored-no_look rule.pcr_pid history packet errored)
