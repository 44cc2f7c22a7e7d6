use Rattle.std.proofs.Common.{◌≡◌, ◌<◌, ◌==◌, ℕ, List, filter, map, not}
use Rattle.std.specs.List.{All}
use Rattle.ts_packet.specs.declared.numbers.TheConstants.{PID_COUNT}
use Rattle.ts_packet.specs.Header.{pid_of}
use Rattle.plugin_notes.specs.PidPackets.{numbers_below, packets_on}
use Rattle.plugin_notes.specs.Tallies.{IsCounted}
use Rattle.plug_analyze.proofs.summary.pids_with_packets.Given as goal

abbrev pub invariant-loop-pid : goal.invariant-loop-pid
invariant-loop-pid l = record {
  pids : (packets : List (List ℕ)) → IsCounted l.totals.packets (map pid_of packets)
      → l.pids.items ≡ filter (λ q. not (packets_on q packets == 0)) (numbers_below l.pid);
  range : All (λ pid. pid < PID_COUNT) l.pids.items;
}
