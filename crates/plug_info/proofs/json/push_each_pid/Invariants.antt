use Rattle.std.proofs.Common.{◌≡◌, ◌++◌, List}
use Rattle.std.specs.List.{flat_map}
use Rattle.std.specs.String.{string_bytes}
use Rattle.ts_packet.specs.declared.cell.Cell.{Cell}
use Rattle.ts_packet.specs.Cells.{live_packets}
use Rattle.plugin_notes.specs.PidPackets.{numbers_below}
use Rattle.plug_info_texts.specs.InfoJson.{after_comma}
use Rattle.plug_info.specs.InfoRule.{pid_objects, scene_of}
use Rattle.plug_info_state.specs.Tracked.{Tracks}
use Rattle.plug_info.specs.UsesOf.{AreUses}
use Rattle.plug_info.proofs.json.push_each_pid.Given as goal

abbrev pub invariant-loop-pid : goal.invariant-loop-pid
invariant-loop-pid l = (cells : List Cell) → Tracks l.tracker cells → AreUses l.uses (live_packets cells) → l.scene ≡ scene_of cells
    → string_bytes l.items ≡ string_bytes l.fn.items ++ flat_map (λ pid. flat_map after_comma (pid_objects cells pid)) (numbers_below l.pid)
