use Rattle.std.proofs.Common.{◌≡◌, List, ◌++◌}
use Rattle.std.specs.List.{flat_map}
use Rattle.plugin_trait.specs.PlacedLines.{placed_at}
use Rattle.plugin_notes.specs.PidPackets.{numbers_below}
use Rattle.plug_times.specs.ClockSteps.{IsStepped, clock_lines}
use Rattle.plug_times.specs.declared.stamp.Stamp.{Stamp}
use Rattle.plug_times.proofs.summary.push_clock_lines.Given as goal

abbrev pub invariant-loop-pid : goal.invariant-loop-pid
invariant-loop-pid l = (stamps : List Stamp) → IsStepped l.row stamps
    → l.lines.items ≡ l.fn.lines.items ++ placed_at l.cut (flat_map (clock_lines stamps) (numbers_below l.pid))
