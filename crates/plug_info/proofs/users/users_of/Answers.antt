use Rattle.std.proofs.Common.{List, map, ap, ◌∙◌, arith, cond}
use Rattle.std.specs.List.{count_by, filter_map}
use Rattle.std.proofs.lemmas.List.{take_all}
use Rattle.ts_psi.specs.PatTables.{service_item}
use Rattle.ts_psi.specs.declared.pat.PatService.{PatService}
use Rattle.plug_psi.specs.InForce.{pmt_of, service_in}
use Rattle.plug_info.specs.InfoRule.{has_component}
use Rattle.plug_info.proofs.LineLemmas.{users_more}
use Rattle.plug_info.proofs.users.users_of.Goals as goal

pub loop-service-preserved : goal.loop-service-preserved
loop-service-preserved c = record {
  users = λ fed h.
      users_more (λ service. has_component (pmt_of service.0 fed) c.args.pid) c.services_of-entries.result.now c.loop-service.service-index c.service-item.result _
      c.loop-service.users c.one_if-users.result c.loop-service-test.true c.service-item.is c.number_and_pid-id.ensures.pair (c.loop-service.invariant.users fed h)
      (c.one_if-users.ensures.is ∙ ap (λ b. cond b 1 0) (c.has_component.ensures ∙ ap (λ p. has_component p c.args.pid) (c.pmt.ensures fed h)));
  few = omega (arith, c.loop-service.invariant.few, c.one_if-users.ensures.most);
}

pub returns : goal.returns
returns c = λ fed h.
    c.loop-service.invariant.users fed h
    ∙ ap (count_by (λ service. has_component (pmt_of service.0 fed) c.args.pid))
    (ap (λ (es : List PatService). filter_map service_in (map service_item es))
    (take_all c.loop-service.service-index c.services_of-entries.result.now c.loop-service-test.false)
    ∙ c.services_of-entries.ensures fed h)
