use Rattle.std.proofs.Common.{◌≡◌, ◌==◌, drop}
use Rattle.std.specs.Map.{lookup}
use Rattle.plug_psi.proofs.PatLemmas.{pairs_of}
use Rattle.plug_psi.proofs.pat_services.pid_among.Given as goal

-- the services that are left tell it
abbrev pub invariant-loop-service : goal.invariant-loop-service
invariant-loop-service l =
    lookup (λ n. n == l.id) (pairs_of (drop l.service-index l.services)) ≡ lookup (λ n. n == l.id) (pairs_of l.services)
