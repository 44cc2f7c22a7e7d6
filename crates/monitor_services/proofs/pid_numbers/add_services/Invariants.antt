use Rattle.std.proofs.Common.{◌≡◌, ◌++◌, ◌<◌, ℕ, List, drop}
use Rattle.std.specs.List.{All, flat_map}
use Rattle.plug_psi.specs.ForceStands.{StandsFor}
use Rattle.plug_psi.proofs.PatLemmas.{pairs_of}
use Rattle.monitor_services.specs.PidErrors.{pids_by}
use Rattle.monitor_services.specs.declared.limits.TheConstants.{PID_NUMBERS}
use Rattle.monitor_services.proofs.pid_numbers.add_services.Given as goal

-- the PIDs so far and those of the services that are left
abbrev pub invariant-loop-service : goal.invariant-loop-service
invariant-loop-service l =
    ((fed : List (List ℕ)) → StandsFor l.force fed
    → l.numbers.items ++ flat_map (pids_by l.kind fed) (pairs_of (drop l.service-index l.services))
    ≡ l.initial.numbers.items ++ flat_map (pids_by l.kind fed) (pairs_of l.services))
    × (All (λ n. n < PID_NUMBERS) l.initial.numbers.items → All (λ n. n < PID_NUMBERS) l.numbers.items)
