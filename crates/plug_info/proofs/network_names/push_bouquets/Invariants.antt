use Rattle.std.proofs.Common.{◌≡◌, ◌++◌, List}
use Rattle.std.specs.List.{flat_map}
use Rattle.ts_packet.specs.declared.cell.Cell.{Cell}
use Rattle.ts_packet.specs.Cells.{live_packets}
use Rattle.plugin_notes.specs.PidPackets.{numbers_below}
use Rattle.plugin_trait.specs.PlacedLines.{placed_at}
use Rattle.plug_info_state.specs.BatsInForce.{bat_of}
use Rattle.plug_info_state.specs.Tracked.{Tracks}
use Rattle.plug_info.specs.NetworkNames.{bouquet_lines}
use Rattle.plug_info.proofs.network_names.push_bouquets.Given as goal

abbrev pub invariant-loop-id : goal.invariant-loop-id
invariant-loop-id l = (cells : List Cell) → Tracks l.tracker cells
    → l.lines.items ≡ l.fn.lines.items ++ placed_at l.cut (flat_map (λ id. bouquet_lines (bat_of id (live_packets cells))) (numbers_below l.id))
