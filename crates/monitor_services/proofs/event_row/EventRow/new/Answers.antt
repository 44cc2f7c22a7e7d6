use Rattle.std.proofs.Common.{refl}
use Rattle.monitor_services.specs.EventErrors.{event_rule}
use Rattle.monitor_services.proofs.SdtFeeding.{no-events}
use Rattle.monitor_services.proofs.event_row.EventRow.new.Goals as goal

pub returns : goal.returns
returns c = λ pcr_pid. record {
  keys_are = c.new-2.ensures (event_rule pcr_pid) refl no-events;
  fed_are = c.in_ok-sdt.ensures;
}
