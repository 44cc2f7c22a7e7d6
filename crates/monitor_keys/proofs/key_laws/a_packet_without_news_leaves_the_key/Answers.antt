use Rattle.ts_packet.specs.Cells.{Live}
use Rattle.monitor_keys.specs.Named.{begun_at}
use Rattle.monitor_keys.proofs.Keeping.{gap_quiet, key_quiet}
use Rattle.monitor_keys.proofs.Naming.{still_kept}
use Rattle.monitor_keys.proofs.key_laws.a_packet_without_news_leaves_the_key.Goals as goal

pub returns-clause-stands : goal.returns-clause-stands
returns-clause-stands c = λ rule key history packet labels is no_look no_occurrence. key_quiet rule key history packet labels is no_look no_occurrence

pub returns-clause-named : goal.returns-clause-named
returns-clause-named c = λ rule named kept history packet labels is same no_look no_occurrence.
    still_kept rule named kept history (Live packet labels) is same
    (λ key w. key_quiet (begun_at rule key.from) key history packet labels w no_look no_occurrence)

pub returns-clause-tells : goal.returns-clause-tells
returns-clause-tells c = λ rule history packet no_look. gap_quiet rule history packet no_look
