use Rattle.std.proofs.Common.{◌++◌, ap, ◌∙◌}
use Rattle.ts_si.specs.SiTables.{service_item}
use Rattle.monitor_services.specs.EventErrors.{service_numbers}
use Rattle.monitor_services.proofs.Adding.{item-added}
use Rattle.monitor_services.proofs.event_numbers.add_services.Goals as goal

pub loop-service-preserved : goal.loop-service-preserved
loop-service-preserved c = (
  item-added service_numbers service_item c.loop-service.numbers.items c.add_service.new.numbers.items _ c.args.services.now c.loop-service.service-index c.service-item.result
      c.loop-service-test.true
      (c.in_ok-add_service.ensures.added ∙ ap (λ s. c.loop-service.numbers.items ++ service_numbers (service_item s)) c.service-item.is)
      c.loop-service.invariant.0,
  λ all. c.in_ok-add_service.ensures.below (c.loop-service.invariant.1 all),
)
