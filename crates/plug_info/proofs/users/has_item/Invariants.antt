use Rattle.std.proofs.Common.{◌≡◌, drop, map}
use Rattle.ts_psi.specs.PsiTables.{component_item}
use Rattle.plug_info.specs.Components.{has_item}
use Rattle.plug_info.proofs.users.has_item.Given as goal

-- the result follows from the remaining components
abbrev pub invariant-loop-component : goal.invariant-loop-component
invariant-loop-component l = has_item (map component_item (drop l.component-index l.components)) l.pid ≡ has_item (map component_item l.components) l.pid
