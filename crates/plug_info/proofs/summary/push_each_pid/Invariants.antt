use Rattle.std.proofs.Common.{◌≡◌, ◌++◌, List}
use Rattle.std.specs.List.{flat_map}
use Rattle.ts_packet.specs.declared.cell.Cell.{Cell}
use Rattle.ts_packet.specs.Cells.{live_packets}
use Rattle.plugin_notes.specs.PidPackets.{numbers_below}
use Rattle.plugin_trait.specs.PlacedLines.{placed_at}
use Rattle.plug_info.specs.InfoRule.{pid_lines, scene_of}
use Rattle.plug_info_state.specs.Tracked.{Tracks}
use Rattle.plug_info.specs.UsesOf.{AreUses}
use Rattle.plug_info.proofs.summary.push_each_pid.Given as goal

abbrev pub invariant-loop-pid : goal.invariant-loop-pid
invariant-loop-pid l = (cells : List Cell) → Tracks l.tracker cells → AreUses l.uses (live_packets cells) → l.scene ≡ scene_of cells
    → l.lines.items ≡ l.fn.lines.items ++ placed_at l.cut (flat_map (pid_lines cells) (numbers_below l.pid))
