use Rattle.std.proofs.Common.{◌≡◌, ℕ, List, ◌++◌, map}
use Rattle.std.specs.List.{flat_map}
use Rattle.ts_packet.specs.Header.{pid_of}
use Rattle.plugin_trait.specs.PlacedLines.{placed_at}
use Rattle.plugin_notes.specs.Tallies.{IsTally}
use Rattle.plugin_notes.specs.PidPackets.{numbers_below}
use Rattle.plug_watch.specs.CountRule.{pid_lines}
use Rattle.plug_watch.proofs.summary.push_pid_lines.Given as goal

abbrev pub invariant-loop-pid : goal.invariant-loop-pid
invariant-loop-pid l = (packets : List (List ℕ)) → IsTally l.tally.counts l.tally.total (map pid_of packets)
    → l.lines.items ≡ l.fn.lines.items ++ placed_at l.cut (flat_map (pid_lines packets) (numbers_below l.pid))
