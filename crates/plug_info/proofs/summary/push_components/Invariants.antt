use Rattle.std.proofs.Common.{◌≡◌, ◌++◌, List, map, take}
use Rattle.ts_packet.specs.declared.cell.Cell.{Cell}
use Rattle.ts_psi.specs.PsiTables.{component_item}
use Rattle.plugin_trait.specs.PlacedLines.{placed_at}
use Rattle.plug_info.specs.InfoRule.{component_line, scene_of}
use Rattle.plug_info_state.specs.Tracked.{Tracks}
use Rattle.plug_info.proofs.summary.push_components.Given as goal

abbrev pub invariant-loop-component : goal.invariant-loop-component
invariant-loop-component l = (cells : List Cell) → Tracks l.tracker cells → l.scene ≡ scene_of cells
    → l.lines.items ≡ l.fn.lines.items ++ placed_at l.cut (map (λ c. component_line cells l.service (component_item c)) (take l.component-index l.components))
