use Rattle.std.proofs.Common.{map, ap, ap₂, ◌∙◌}
use Rattle.ts_packet.specs.Cells.{live_packets}
use Rattle.plug_info_texts.specs.InfoJson.{array, portion_json, service_head}
use Rattle.plug_info.specs.InfoRule.{component_object, pcr_pid_in, service_packets}
use Rattle.named_services.specs.SdtInForce.{items_in, service_body}
use Rattle.plug_info.proofs.JsonLemmas.{service_tail_is}
use Rattle.plug_info.proofs.LineLemmas.{three_parts}
use Rattle.plug_info.proofs.json.service_json.Goals as goal

pub returns : goal.returns
returns c = λ cells w s.
    let p = c.pmt-pmt.ensures (live_packets cells) w.fed in
    c.in_ok-text.ensures.ok
    ∙ three_parts _ _ _ _ _ _
    (c.in_ok-head.ensures
    ∙ ap (service_head c.args.id)
    (c.service_body.ensures ∙ ap (λ t. service_body t c.args.id) (c.sdt_in_force.ensures cells w)))
    (c.in_ok-marks.ensures cells w p)
    (c.in_ok-tail.ensures
    ∙ service_tail_is c.args.pid _ _ _ _ _ _ (c.pcr_pid_in.ensures ∙ ap pcr_pid_in p)
    (ap₂ portion_json s (c.service_packets-packets.ensures cells w ∙ ap (λ t. service_packets t (live_packets cells)) p))
    (c.deref.ensures ∙ (c.in_ok-components.ensures cells w s ∙ ap (λ t. array (map (component_object cells) (items_in t))) p)))
