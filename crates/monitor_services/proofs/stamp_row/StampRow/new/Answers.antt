use Rattle.std.proofs.Common.{refl}
use Rattle.monitor_services.specs.StampErrors.{stamp_rule}
use Rattle.monitor_services.proofs.Starting.{not-started}
use Rattle.monitor_services.proofs.stamp_row.StampRow.new.Goals as goal

pub returns : goal.returns
returns c = λ pcr_pid. record {
  keys_are = c.new.ensures (stamp_rule pcr_pid) refl (λ n. refl);
  started = not-started _ c.new-2.ensures.items c.new-3.ensures.items;
}
