use Rattle.std.proofs.Common.{◌≡◌, ◌++◌, ◌<◌, drop, map}
use Rattle.std.specs.List.{All, flat_map}
use Rattle.ts_psi.specs.PsiTables.{component_item}
use Rattle.monitor_services.specs.Components.{sounding_pid}
use Rattle.monitor_services.specs.declared.limits.TheConstants.{PID_NUMBERS}
use Rattle.monitor_services.proofs.component_pids.add_sounding.Given as goal

-- the PIDs so far and those of the components that are left
abbrev pub invariant-loop-component : goal.invariant-loop-component
invariant-loop-component l =
    (l.numbers.items ++ flat_map sounding_pid (map component_item (drop l.component-index l.components))
    ≡ l.initial.numbers.items ++ flat_map sounding_pid (map component_item l.components))
    × (All (λ n. n < PID_NUMBERS) l.initial.numbers.items → All (λ n. n < PID_NUMBERS) l.numbers.items)
