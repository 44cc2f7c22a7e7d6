use Rattle.std.proofs.Common.{refl, sym}
use Rattle.monitor_tables.specs.TableKeys.{nit_key, sdt_key, tdt_key}
use Rattle.monitor_priorities.proofs.service_tables.ServiceTables.new.Goals as goal

pub returns : goal.returns
returns c = λ pcr_pid. record {
  nit = record { kind_is = c.in_ok-new.ensures.kind; row_is = c.in_ok-new.ensures.stands (nit_key pcr_pid) refl (sym c.told_twice.ensures) (λ history packet. refl) };
  sdt = record { kind_is = c.in_ok-new-2.ensures.kind; row_is = c.in_ok-new-2.ensures.stands (sdt_key pcr_pid) refl (sym c.told_twice-2.ensures) (λ history packet. refl) };
  tdt = record { kind_is = c.in_ok-new-3.ensures.kind; row_is = c.in_ok-new-3.ensures.stands (tdt_key pcr_pid) refl (sym c.told_twice-3.ensures) (λ history packet. refl) };
}
