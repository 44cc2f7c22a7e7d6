use Rattle.std.proofs.Common.{◌+◌, ◌++◌, List, map, take, ap, ◌∙◌}
use Rattle.std.specs.List.{filter_map, flat_map}
use Rattle.std.specs.String.{string_bytes}
use Rattle.std.proofs.lemmas.List.{take_all}
use Rattle.ts_packet.specs.Cells.{live_packets}
use Rattle.ts_psi.specs.PatTables.{service_item}
use Rattle.ts_psi.specs.declared.pat.PatService.{PatService}
use Rattle.plug_psi.specs.InForce.{service_in}
use Rattle.plug_info_texts.specs.InfoJson.{after_comma}
use Rattle.plug_info.specs.InfoRule.{service_object}
use Rattle.plug_info_texts.proofs.JsonLemmas.{item_more}
use Rattle.plug_info.proofs.LineLemmas.{services_more}
use Rattle.plug_info.proofs.json.push_services.Goals as goal

pub loop-service-preserved : goal.loop-service-preserved
loop-service-preserved c = λ cells w s.
    let entries = c.services_of-entries.result.now in
    let at = c.loop-service.service-index in
    item_more (λ x. after_comma (service_object cells x)) (filter_map service_in (map service_item (take at entries)))
    (filter_map service_in (map service_item (take (at + 1) entries))) _ _ _ _ _
    (services_more entries at c.service-item.result _ c.loop-service-test.true c.service-item.is c.number_and_pid-id.ensures.pair)
    (ap after_comma (c.deref.ensures ∙ c.in_ok-text.ensures cells w s)) (c.loop-service.invariant cells w s) c.in_ok-push_item.ensures

pub returns : goal.returns
returns c = λ cells w s.
    c.loop-service.invariant cells w s
    ∙ ap (λ xs. string_bytes c.args.items.now ++ flat_map (λ x. after_comma (service_object cells x)) xs)
    (ap (λ (es : List PatService). filter_map service_in (map service_item es))
    (take_all c.loop-service.service-index c.services_of-entries.result.now c.loop-service-test.false)
    ∙ c.services_of-entries.ensures (live_packets cells) w.fed)
