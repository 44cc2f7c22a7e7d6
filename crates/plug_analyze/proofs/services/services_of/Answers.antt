use Rattle.std.proofs.Common.{List, map, ap, ◌∙◌}
use Rattle.std.specs.List.{filter_map}
use Rattle.std.proofs.lemmas.List.{take_all}
use Rattle.ts_psi.specs.PatTables.{service_item}
use Rattle.ts_psi.specs.declared.pat.PatService.{PatService}
use Rattle.plug_psi.specs.InForce.{pmt_of, service_in}
use Rattle.plug_analyze.specs.AnalyzeRule.{service_with}
use Rattle.plug_analyze.proofs.ServicesKeeping.{service_more, services_are}
use Rattle.plug_analyze.proofs.services.services_of.Goals as goal

pub loop-service-init : goal.loop-service-init
loop-service-init c = λ fed h. c.new-services.ensures.items

pub loop-service-preserved : goal.loop-service-preserved
loop-service-preserved c = λ fed h.
    service_more (λ id. pmt_of id fed) c.as_slice-entries.result.now c.loop-service.service-index c.service-item.result _ _ c.service_count.result
    c.loop-service-test.true c.service-item.is (c.service_count.ensures fed h) (c.loop-service.invariant fed h) c.in_ok-push.ensures.items

pub returns : goal.returns
returns c = λ fed h.
    services_are fed c.in-Some.pat.now _ (c.in-Some.ensures fed h)
    (c.loop-service.invariant fed h
    ∙ ap (λ (es : List PatService). map (service_with (λ id. pmt_of id fed)) (filter_map service_in (map service_item es)))
    (take_all c.loop-service.service-index c.as_slice-entries.result.now c.loop-service-test.false ∙ c.as_slice-entries.ensures))
