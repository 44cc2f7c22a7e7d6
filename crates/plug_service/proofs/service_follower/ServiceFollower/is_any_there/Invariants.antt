use Rattle.std.proofs.Common.{◌≡◌, ℕ, List, drop}
use Rattle.plug_psi.specs.InForce.{pat_of, pmt_of}
use Rattle.plug_service.specs.ActionsState.{FollowsServices}
use Rattle.plug_service.specs.Presence.{is_any_there}
use Rattle.named_services.specs.declared.service_word.ServiceWord.{ServiceWord}
use Rattle.plug_service.specs.declared.way.Way.{Way}
use Rattle.plug_service.proofs.service_follower.ServiceFollower.is_any_there.Given as goal

-- one of the services is there as one of those that are left is
abbrev pub invariant-loop-service : goal.invariant-loop-service
invariant-loop-service l = (way : Way) (followed : List ServiceWord) (met : List (List ℕ)) → FollowsServices way followed l.self met
    → is_any_there way (drop l.service-index l.services) (pat_of met) (λ service. pmt_of service met)
    ≡ is_any_there way l.services (pat_of met) (λ service. pmt_of service met)
