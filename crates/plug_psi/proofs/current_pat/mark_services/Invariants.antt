use Rattle.std.proofs.Common.{◌≡◌, ℕ, ◌==◌, ◌||◌, get_or, drop, false}
use Rattle.std.specs.List.{list_any}
use Rattle.plug_psi.proofs.PatLemmas.{pairs_of}
use Rattle.plug_psi.proofs.current_pat.mark_services.Given as goal

-- the flags and the services that are left tell it
abbrev pub invariant-loop-service : goal.invariant-loop-service
invariant-loop-service l = (pid : ℕ) → (get_or l.marks pid false || list_any (λ entry. entry.1 == pid) (pairs_of (drop l.service-index l.services)))
    ≡ list_any (λ entry. entry.1 == pid) (pairs_of l.services)
