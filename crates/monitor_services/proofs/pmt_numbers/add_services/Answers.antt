use Rattle.std.proofs.Common.{◌++◌, ℕ, Option, Some, ap, map, option_to_list, sym, ◌∙◌}
use Rattle.ts_psi.specs.PatTables.{pat_held, service_item}
use Rattle.plug_psi.specs.InForce.{service_in}
use Rattle.plug_psi.proofs.PidLemmas.{added-next, added-all}
use Rattle.monitor_services.specs.GapErrors.{pmt_number}
use Rattle.monitor_services.specs.PmtErrors.{numbers_of}
use Rattle.monitor_services.proofs.pmt_numbers.add_services.Goals as goal

pub loop-service-preserved : goal.loop-service-preserved
loop-service-preserved c = (
  added-next (numbers_of (Some (pat_held c.args.pat.now))) c.loop-service.numbers.items c.add_service.new.numbers.items _ c.args.services.now c.loop-service.service-index c.service-item.result
      (c.number_and_pid-id.result.0, c.number_and_pid-id.result.1) c.loop-service-test.true
      (ap (λ s. service_in (service_item s)) (sym c.service-item.is) ∙ c.number_and_pid-id.ensures.pair)
      (c.in_ok-add_service.ensures.added
      ∙ ap (λ (pid : Option ℕ). c.loop-service.numbers.items ++ map (pmt_number c.number_and_pid-id.result.0) (option_to_list pid)) c.pid_of_service.ensures)
      c.loop-service.invariant.0,
  λ all. c.in_ok-add_service.ensures.below (c.loop-service.invariant.1 all),
)

pub returns-clause-added : goal.returns-clause-added
returns-clause-added c =
    added-all (numbers_of (Some (pat_held c.args.pat.now))) c.loop-service.numbers.items _ c.args.services.now c.loop-service.service-index c.loop-service-test.false
    c.loop-service.invariant.0

pub returns-clause-below : goal.returns-clause-below
returns-clause-below c = c.loop-service.invariant.1
