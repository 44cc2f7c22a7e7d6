use Rattle.plug_psi.specs.InForce.{pmt_of}
use Rattle.plug_psi.specs.ServicePids.{pids_of}
use Rattle.plug_service.proofs.PidLemmas.{own-all, own-next}
use Rattle.plug_service.proofs.action_row.own_pids.Goals as goal

pub loop-service-preserved : goal.loop-service-preserved
loop-service-preserved c = λ fed f.
    own-next (λ other. pids_of (pmt_of other fed)) c.args.services.now c.loop-service.service-index _ c.loop-service.pids.items c.add_own.new.pids.items _ c.loop-service-test.true (c.in_ok-add_own.ensures fed f) (c.loop-service.invariant fed f)

pub returns : goal.returns
returns c = λ fed f.
    own-all (λ other. pids_of (pmt_of other fed)) c.args.services.now c.loop-service.service-index c.loop-service.pids.items _ c.loop-service-test.false (c.loop-service.invariant fed f)
