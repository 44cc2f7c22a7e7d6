use Rattle.std.proofs.Common.{◌≡◌, ◌++◌, List, map, take}
use Rattle.std.specs.List.{filter_map, flat_map}
use Rattle.ts_packet.specs.declared.cell.Cell.{Cell}
use Rattle.ts_psi.specs.PatTables.{service_item}
use Rattle.plugin_trait.specs.PlacedLines.{placed_at}
use Rattle.plug_psi.specs.InForce.{service_in}
use Rattle.plug_info.specs.InfoRule.{scene_of, service_lines}
use Rattle.plug_info_state.specs.Tracked.{Tracks}
use Rattle.plug_info.proofs.summary.push_services.Given as goal

abbrev pub invariant-loop-service : goal.invariant-loop-service
invariant-loop-service l = (cells : List Cell) → Tracks l.tracker cells → l.scene ≡ scene_of cells
    → l.lines.items ≡ l.fn.lines.items ++ placed_at l.cut (flat_map (service_lines cells) (filter_map service_in (map service_item (take l.service-index l.entries))))
