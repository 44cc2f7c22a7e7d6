use Rattle.std.proofs.Common.{◌++◌, List, map, ap, ◌∙◌}
use Rattle.std.specs.List.{filter_map, flat_map}
use Rattle.std.proofs.lemmas.List.{take_all}
use Rattle.ts_packet.specs.Cells.{live_packets}
use Rattle.ts_psi.specs.PatTables.{service_item}
use Rattle.ts_psi.specs.declared.pat.PatService.{PatService}
use Rattle.plugin_trait.specs.PlacedLines.{placed_at}
use Rattle.plug_psi.specs.InForce.{service_in}
use Rattle.plug_info.specs.InfoRule.{service_lines}
use Rattle.plug_info.proofs.LineLemmas.{services_lines_more}
use Rattle.plug_info.proofs.summary.push_services.Goals as goal

pub loop-service-preserved : goal.loop-service-preserved
loop-service-preserved c = λ cells w s.
    services_lines_more c.args.cut (service_lines cells) c.services_of-entries.result.now c.loop-service.service-index c.service-item.result _
    c.args.lines.now.items c.loop-service.lines.items c.push_service.new.lines.items
    c.loop-service-test.true c.service-item.is c.number_and_pid-id.ensures.pair (c.loop-service.invariant cells w s) (c.in_ok-push_service.ensures cells w s)

pub returns : goal.returns
returns c = λ cells w s.
    c.loop-service.invariant cells w s
    ∙ ap (λ xs. c.args.lines.now.items ++ placed_at c.args.cut (flat_map (service_lines cells) xs))
    (ap (λ (es : List PatService). filter_map service_in (map service_item es))
    (take_all c.loop-service.service-index c.services_of-entries.result.now c.loop-service-test.false)
    ∙ c.services_of-entries.ensures (live_packets cells) w.fed)
