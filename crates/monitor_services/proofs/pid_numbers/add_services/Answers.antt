use Rattle.std.proofs.Common.{◌++◌, ap, sym, ◌∙◌}
use Rattle.ts_psi.specs.PatTables.{service_item}
use Rattle.ts_table_rows.specs.TableValues.{TableHolding}
use Rattle.std.specs.Prelude.{Option}
use Rattle.plug_psi.specs.InForce.{service_in}
use Rattle.plug_psi.proofs.PidLemmas.{added-next, added-all}
use Rattle.monitor_services.specs.PidErrors.{pids_by, pids_of}
use Rattle.monitor_services.proofs.pid_numbers.add_services.Goals as goal

pub loop-service-preserved : goal.loop-service-preserved
loop-service-preserved c = (
  λ fed forced.
      added-next (pids_by c.args.kind fed) c.loop-service.numbers.items c.add_pmt.new.numbers.items _ c.args.services.now c.loop-service.service-index c.service-item.result
      (c.number_and_pid-id.result.0, c.number_and_pid-id.result.1) c.loop-service-test.true
      (ap (λ s. service_in (service_item s)) (sym c.service-item.is) ∙ c.number_and_pid-id.ensures.pair)
      (c.in_ok-add_pmt.ensures.added ∙ ap (λ (pmt : Option TableHolding). c.loop-service.numbers.items ++ pids_of c.args.kind pmt) (c.pmt.ensures fed forced))
      (c.loop-service.invariant.0 fed forced),
  λ all. c.in_ok-add_pmt.ensures.below (c.loop-service.invariant.1 all),
)

pub returns-clause-added : goal.returns-clause-added
returns-clause-added c = λ fed forced.
    added-all (pids_by c.args.kind fed) c.loop-service.numbers.items _ c.args.services.now c.loop-service.service-index c.loop-service-test.false
    (c.loop-service.invariant.0 fed forced)

pub returns-clause-below : goal.returns-clause-below
returns-clause-below c = c.loop-service.invariant.1
