use Rattle.std.proofs.Common.{◌≡◌, List, None}
use Rattle.std.specs.Prelude.{option_map}
use Rattle.std.specs.List.{fold}
use Rattle.ts_packet.specs.declared.cell.Cell.{Cell}
use Rattle.plugin_notes.specs.PidPackets.{numbers_below}
use Rattle.plug_info_state.specs.ClockSpans.{AreSpans, span_on}
use Rattle.plug_info_state.specs.PcrRate.{wider_of}
use Rattle.plug_info_state.proofs.spans.Spans.widest.Given as goal

abbrev pub invariant-loop-pid : goal.invariant-loop-pid
invariant-loop-pid l = (cells : List Cell) → AreSpans l.self cells
    → l.widest ≡ option_map (span_on cells) (fold (wider_of cells) None (numbers_below l.pid))
