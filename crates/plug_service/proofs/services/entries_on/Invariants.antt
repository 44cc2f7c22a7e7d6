use Rattle.std.proofs.Common.{◌≡◌, ◌==◌, ◌+◌, ◌≤◌, drop}
use Rattle.std.specs.Prelude.{count_by}
use Rattle.plug_psi.proofs.PatLemmas.{pairs_of}
use Rattle.plug_service.proofs.services.entries_on.Given as goal

-- the count so far and that of the services that are left
abbrev pub invariant-loop-service : goal.invariant-loop-service
invariant-loop-service l = record {
  few : l.count ≤ l.service-index;
  counted : l.count + count_by (λ entry. entry.1 == l.at) (pairs_of (drop l.service-index l.services))
      ≡ count_by (λ entry. entry.1 == l.at) (pairs_of l.services);
}
