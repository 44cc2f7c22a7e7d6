use Rattle.std.proofs.Common.{◌++◌, ap, sym, ◌∙◌}
use Rattle.plug_info.specs.CaSystems.{pmt_systems}
use Rattle.ts_psi.specs.PatTables.{service_item}
use Rattle.plug_psi.specs.InForce.{pmt_of, service_in}
use Rattle.plug_info.proofs.UseLemmas.{named-all, named-next}
use Rattle.plug_info.proofs.pid_uses.add_ecm_systems.Goals as goal

pub loop-service-preserved : goal.loop-service-preserved
loop-service-preserved c = λ fed f.
    named-next (λ service. pmt_systems (pmt_of service.0 fed)) c.loop-service.systems.items c.add_of_pmt.new.systems.items _ c.args.services.now c.loop-service.service-index c.service-item.result
    (c.number_and_pid-id.result.0, c.number_and_pid-id.result.1) c.loop-service-test.true (ap (λ s. service_in (service_item s)) (sym c.service-item.is) ∙ c.number_and_pid-id.ensures.pair)
    (c.in_ok-add_of_pmt.ensures ∙ ap (λ pmt. c.loop-service.systems.items ++ pmt_systems pmt) (c.pmt.ensures fed f)) (c.loop-service.invariant fed f)

pub returns : goal.returns
returns c = λ fed f.
    named-all (λ service. pmt_systems (pmt_of service.0 fed)) c.loop-service.systems.items _ c.args.services.now c.loop-service.service-index c.loop-service-test.false (c.loop-service.invariant fed f)
