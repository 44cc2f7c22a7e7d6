use Rattle.std.proofs.Common.{◌≡◌, ◌++◌, List, take}
use Rattle.std.specs.List.{flat_map}
use Rattle.std.specs.String.{string_bytes}
use Rattle.ts_packet.specs.declared.cell.Cell.{Cell}
use Rattle.ts_psi.specs.PsiTables.{component_item}
use Rattle.plug_info_texts.specs.InfoJson.{after_comma}
use Rattle.plug_info.specs.InfoRule.{component_object, scene_of}
use Rattle.plug_info_state.specs.Tracked.{Tracks}
use Rattle.plug_info.proofs.json.push_components.Given as goal

abbrev pub invariant-loop-component : goal.invariant-loop-component
invariant-loop-component l = (cells : List Cell) → Tracks l.tracker cells → l.scene ≡ scene_of cells
    → string_bytes l.items ≡ string_bytes l.fn.items ++ flat_map (λ c. after_comma (component_object cells (component_item c))) (take l.component-index l.components)
