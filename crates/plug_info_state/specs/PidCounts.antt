-- How many packets of each kind are on a PID. This project's own rule, over the header fields of ISO/IEC 13818-1,
-- 2.4.3.2.
use Rattle.std.specs.Prelude.{ℕ, ◌==◌, List, filter, count_by}
use Rattle.ts_packet.specs.declared.cell.Cell.{Cell}
use Rattle.ts_packet.specs.Cells.{live_packets}
use Rattle.plugin_notes.specs.PidPackets.{packets_on}
use Rattle.plug_analyze.specs.AnalyzeRule.{fault_pids, is_scrambled}
use Rattle.plug_info_texts.specs.declared.pid_numbers.PidNumbers.{PidNumbers}

-- how many packets on a PID are of each kind, in a list of cells
abbrev pub numbers_on : ℕ → List Cell → PidNumbers
numbers_on pid cells = record {
  packets = packets_on pid (live_packets cells);
  scrambled = packets_on pid (filter is_scrambled (live_packets cells));
  faults = count_by (λ q. q == pid) (fault_pids cells);
}
