-- The counts by PID, one for each kind of packets. This project's own rule.
use Rattle.std.specs.Prelude.{List, map, filter}
use Rattle.ts_packet.specs.declared.cell.Cell.{Cell}
use Rattle.ts_packet.specs.Cells.{live_packets}
use Rattle.ts_packet.specs.Header.{error_indicator_of, pid_of}
use Rattle.plugin_notes.specs.Tallies.{HasRoomIn, IsCounted}
use Rattle.plug_analyze.specs.AnalyzeRule.{fault_pids, is_scrambled}
use Rattle.plug_info_state.specs.declared.packet_counts.PacketCounts.{PacketCounts}

-- the packets of a list of cells were counted
pub record AreCounted (counts : PacketCounts) (cells : List Cell) : Type 0 where
  pub packets : IsCounted counts.packets (map pid_of (live_packets cells))
  pub scrambled : IsCounted counts.scrambled (map pid_of (filter is_scrambled (live_packets cells)))
  pub faults : IsCounted counts.faults (fault_pids cells)
  pub errored : IsCounted counts.errored (map pid_of (filter error_indicator_of (live_packets cells)))

-- one more packet can be counted
pub record HasRoom (counts : PacketCounts) : Type 0 where
  pub packets : HasRoomIn counts.packets
  pub scrambled : HasRoomIn counts.scrambled
  pub faults : HasRoomIn counts.faults
  pub errored : HasRoomIn counts.errored
