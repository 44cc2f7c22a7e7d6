use Rattle.std.proofs.Common.{ap, sym, ◌∙◌}
use Rattle.ts_psi.specs.PatTables.{service_item}
use Rattle.plug_psi.specs.InForce.{pmt_of, service_in}
use Rattle.plug_service.specs.Actions.{pids_besides}
use Rattle.plug_psi.proofs.PidLemmas.{added-next, added-all}
use Rattle.plug_service.proofs.action_row.pids_of_others.Goals as goal

pub loop-entry-preserved : goal.loop-entry-preserved
loop-entry-preserved c = λ fed f.
    added-next (pids_besides c.args.services.now (λ other. pmt_of other fed)) c.loop-entry.pids.items c.add_besides.new.pids.items _ c.args.entries.now c.loop-entry.entry-index c.entry-item.result
    (c.number_and_pid-id.result.0, c.number_and_pid-id.result.1) c.loop-entry-test.true (ap (λ s. service_in (service_item s)) (sym c.entry-item.is) ∙ c.number_and_pid-id.ensures.pair) (c.in_ok-add_besides.ensures fed c.number_and_pid-id.result.1 f) (c.loop-entry.invariant fed f)

pub returns : goal.returns
returns c = λ fed f.
    added-all (pids_besides c.args.services.now (λ other. pmt_of other fed)) c.loop-entry.pids.items _ c.args.entries.now c.loop-entry.entry-index c.loop-entry-test.false (c.loop-entry.invariant fed f)
