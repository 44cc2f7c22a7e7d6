use Rattle.std.proofs.Common.{◌≡◌, ◌++◌, List, map, take}
use Rattle.std.specs.List.{filter_map, flat_map}
use Rattle.std.specs.String.{string_bytes}
use Rattle.ts_packet.specs.declared.cell.Cell.{Cell}
use Rattle.ts_psi.specs.PatTables.{service_item}
use Rattle.plug_psi.specs.InForce.{service_in}
use Rattle.plug_info_texts.specs.InfoJson.{after_comma}
use Rattle.plug_info.specs.InfoRule.{scene_of, service_object}
use Rattle.plug_info_state.specs.Tracked.{Tracks}
use Rattle.plug_info.proofs.json.push_services.Given as goal

abbrev pub invariant-loop-service : goal.invariant-loop-service
invariant-loop-service l = (cells : List Cell) → Tracks l.tracker cells → l.scene ≡ scene_of cells
    → string_bytes l.items ≡ string_bytes l.fn.items
    ++ flat_map (λ s. after_comma (service_object cells s)) (filter_map service_in (map service_item (take l.service-index l.entries)))
