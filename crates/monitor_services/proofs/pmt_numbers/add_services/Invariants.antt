use Rattle.std.proofs.Common.{◌≡◌, ◌++◌, ◌<◌, drop, Some}
use Rattle.std.specs.List.{All, flat_map}
use Rattle.ts_psi.specs.PatTables.{pat_held}
use Rattle.plug_psi.proofs.PatLemmas.{pairs_of}
use Rattle.monitor_services.specs.PmtErrors.{numbers_of}
use Rattle.monitor_services.specs.declared.limits.TheConstants.{PMT_NUMBERS}
use Rattle.monitor_services.proofs.pmt_numbers.add_services.Given as goal

-- the numbers so far and those of the services that are left
abbrev pub invariant-loop-service : goal.invariant-loop-service
invariant-loop-service l =
    (l.numbers.items ++ flat_map (numbers_of (Some (pat_held l.pat))) (pairs_of (drop l.service-index l.services))
    ≡ l.initial.numbers.items ++ flat_map (numbers_of (Some (pat_held l.pat))) (pairs_of l.services))
    × (All (λ n. n < PMT_NUMBERS) l.initial.numbers.items → All (λ n. n < PMT_NUMBERS) l.numbers.items)
