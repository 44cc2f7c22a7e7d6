use Rattle.std.proofs.Common.{◌≡◌, ◌++◌, ◌<◌, drop, map}
use Rattle.std.specs.List.{All, flat_map}
use Rattle.ts_si.specs.SiTables.{service_item}
use Rattle.monitor_services.specs.EventErrors.{service_numbers}
use Rattle.monitor_services.specs.declared.limits.TheConstants.{EVENT_NUMBERS}
use Rattle.monitor_services.proofs.event_numbers.add_services.Given as goal

-- the numbers so far and those of the services that are left
abbrev pub invariant-loop-service : goal.invariant-loop-service
invariant-loop-service l =
    (l.numbers.items ++ flat_map service_numbers (map service_item (drop l.service-index l.services))
    ≡ l.initial.numbers.items ++ flat_map service_numbers (map service_item l.services))
    × (All (λ n. n < EVENT_NUMBERS) l.initial.numbers.items → All (λ n. n < EVENT_NUMBERS) l.numbers.items)
