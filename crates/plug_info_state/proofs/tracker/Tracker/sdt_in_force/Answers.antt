use Rattle.std.proofs.Common.{◌∙◌}
use Rattle.ts_packet.specs.Cells.{live_packets}
use Rattle.named_services.proofs.SdtLemmas.{in-force}
use Rattle.plug_info_state.proofs.tracker.Tracker.sdt_in_force.Goals as goal

pub returns : goal.returns
returns c = λ cells w.
    c.in_force.ensures (live_packets cells) w.has_sdt ∙ in-force (live_packets cells) c.stream_id.result (c.stream_id.ensures cells w)
