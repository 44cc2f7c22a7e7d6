use Rattle.std.proofs.Common.{◌∙◌}
use Rattle.ts_packet.specs.Cells.{live_packets}
use Rattle.monitor_services.specs.StampErrors.{stamp_rule}
use Rattle.monitor_services.proofs.Starting.{started_are}
use Rattle.monitor_services.proofs.stamp_row.StampRow.start.Goals as goal

pub returns : goal.returns
returns c = λ pcr_pid history labels has here were are.
    let now = started_are (live_packets history) c.args.packet.now c.deref-2.result.now c.deref.result.now _
    (c.deref-2.ensures.value ∙ were) (c.deref.ensures.value ∙ are) c.in_ok-self.ensures in
    record {
      keys_named = c.in_ok-rename.ensures (stamp_rule pcr_pid) history c.args.packet.now labels has here (c.deref-3.ensures.value ∙ now);
      started = record { components_are = are; started_are = now };
    }
