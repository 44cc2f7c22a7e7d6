use Rattle.std.proofs.Common.{refl}
use Rattle.monitor_tables.specs.TableKeys.{pat_key}
use Rattle.monitor_priorities.proofs.first_rows.FirstRows.new.Goals as goal

pub returns : goal.returns
returns c = λ pcr_pid. record {
  pat = record { kind_is = c.in_ok-new.ensures.kind; row_is = c.in_ok-new.ensures.stands (pat_key pcr_pid) refl refl (λ history packet. refl) };
  counters = c.in_ok-new-2.ensures;
  pmts = c.new-3.ensures pcr_pid;
  components = c.new-4.ensures pcr_pid;
}
