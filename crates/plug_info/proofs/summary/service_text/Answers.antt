use Rattle.std.proofs.Common.{ap, ap₂, ◌∙◌}
use Rattle.plug_info.specs.InfoRule.{pcr_pid_in, service_packets}
use Rattle.plug_info_texts.specs.InfoTexts.{portion_text, service_head, service_tail}
use Rattle.named_services.specs.SdtInForce.{service_body}
use Rattle.ts_packet.specs.Cells.{live_packets}
use Rattle.plug_info.proofs.LineLemmas.{three_parts}
use Rattle.plug_info.proofs.summary.service_text.Goals as goal

pub returns : goal.returns
returns c = λ cells w s p.
    c.of.ensures
    ∙ (c.in_ok-text.ensures.ok
    ∙ three_parts _ _ _ _ _ _
    (c.in_ok-head.ensures
    ∙ ap (service_head c.args.id)
    (c.service_body-body.ensures ∙ ap (λ t. service_body t c.args.id) (c.sdt_in_force.ensures cells w)))
    (c.in_ok-tail.ensures
    ∙ ap₂ (service_tail c.args.pid) (c.pcr_pid_in.ensures ∙ ap pcr_pid_in p)
    (ap₂ portion_text s (c.service_packets-packets.ensures cells w ∙ ap (λ t. service_packets t (live_packets cells)) p)))
    (c.in_ok-marks.ensures cells w p))
