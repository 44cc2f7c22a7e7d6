use Rattle.std.proofs.Common.{◌≡◌, ◌++◌, List}
use Rattle.std.specs.List.{flat_map}
use Rattle.std.specs.String.{string_bytes}
use Rattle.ts_packet.specs.declared.cell.Cell.{Cell}
use Rattle.ts_packet.specs.Cells.{live_packets}
use Rattle.plugin_notes.specs.PidPackets.{numbers_below}
use Rattle.plug_info_texts.specs.InfoJson.{after_comma}
use Rattle.plug_info_state.specs.BatsInForce.{bat_of}
use Rattle.plug_info_state.specs.Tracked.{Tracks}
use Rattle.plug_info.specs.NetworkNames.{bouquet_objects}
use Rattle.plug_info.proofs.network_names.push_objects.Given as goal

abbrev pub invariant-loop-id : goal.invariant-loop-id
invariant-loop-id l = (cells : List Cell) → Tracks l.tracker cells
    → string_bytes l.items ≡ string_bytes l.fn.items
    ++ flat_map (λ id. flat_map after_comma (bouquet_objects (bat_of id (live_packets cells)))) (numbers_below l.id)
