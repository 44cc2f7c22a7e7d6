use Rattle.plug_psi.specs.InForce.{pat_of, pmt_of}
use Rattle.plug_service.proofs.StepLemmas.{any-found, any-next, any-none}
use Rattle.plug_service.proofs.service_follower.ServiceFollower.is_any_there.Goals as goal

pub loop-service-preserved : goal.loop-service-preserved
loop-service-preserved c = λ way followed met h.
    any-next way c.args.services.now (pat_of met) (λ service. pmt_of service met) c.loop-service.service-index _ c.loop-service-test.true c.is_one_there.result
    (c.is_one_there.ensures way followed met h) c.if-is_one_there.false (c.loop-service.invariant way followed met h)

pub returns-then-is_one_there : goal.returns-then-is_one_there
returns-then-is_one_there c = λ way followed met h.
    any-found way c.args.services.now (pat_of met) (λ service. pmt_of service met) c.loop-service.service-index _ c.loop-service-test.true c.is_one_there.result
    (c.is_one_there.ensures way followed met h) c.if-is_one_there.true (c.loop-service.invariant way followed met h)

pub returns : goal.returns
returns c = λ way followed met h.
    any-none way c.args.services.now (pat_of met) (λ service. pmt_of service met) c.loop-service.service-index c.loop-service-test.false (c.loop-service.invariant way followed met h)
