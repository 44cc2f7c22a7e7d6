use Rattle.std.proofs.Common.{◌≡◌, ◌++◌, drop, map}
use Rattle.std.specs.List.{flat_map}
use Rattle.ts_psi.specs.PsiTables.{component_item}
use Rattle.plug_info.specs.CaSystems.{systems_of}
use Rattle.plug_info.proofs.pid_uses.add_of_components.Given as goal

-- the systems so far and those of the components that are left
abbrev pub invariant-loop-component : goal.invariant-loop-component
invariant-loop-component l =
    l.systems.items ++ flat_map (λ x. systems_of x.descriptors) (map component_item (drop l.component-index l.components))
    ≡ l.initial.systems.items ++ flat_map (λ x. systems_of x.descriptors) (map component_item l.components)
