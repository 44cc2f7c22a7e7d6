use Rattle.std.proofs.Common.{◌≡◌, ◌++◌, drop, map}
use Rattle.std.specs.List.{flat_map}
use Rattle.ts_psi.specs.PsiTables.{component_item}
use Rattle.plug_psi.specs.ServicePids.{component_pids}
use Rattle.plug_psi.proofs.pids_of_pmt.add_component_pids.Given as goal

-- the PIDs so far and those of the components that are left
abbrev pub invariant-loop-component : goal.invariant-loop-component
invariant-loop-component l =
    l.pids.items ++ flat_map component_pids (map component_item (drop l.component-index l.components))
    ≡ l.initial.pids.items ++ flat_map component_pids (map component_item l.components)
