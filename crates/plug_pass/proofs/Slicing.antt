-- Lemmas on what `slice` keeps after a dropped cell.
use Rattle.std.proofs.Common.{◌≡◌, ℕ, List, [], ◌∷◌, ◌++◌, length, Bool, true, false, Option, ap, sym, ◌∙◌, append-nil, arith, length-append}
use Rattle.std.proofs.lemmas.Grind.{flat_map-append}
use Rattle.std.specs.Bool.{OnTrue}
use Rattle.ts_packet.specs.declared.cell.Cell.{Cell}
use Rattle.ts_packet.specs.Cells.{Dropped, live_packets, packet_in}
use Rattle.plug_clock.specs.StreamClock.{clock_after}
use Rattle.plug_clock.specs.declared.stream_clock.StreamClock.{StreamClock}
use Rattle.plug_clock.proofs.Ticking.{clock-dropped}
use Rattle.plug_pass.specs.declared.slice.SliceSteps.{SliceSteps}
use Rattle.plug_pass.specs.SliceState.{Sliced}

-- a dropped cell leaves the clock, where there is one
clock_dropped : (timed : Bool) (pid : Option ℕ) (clock : StreamClock) (history : List Cell) → OnTrue timed (clock ≡ clock_after pid history)
    → OnTrue timed (clock ≡ clock_after pid (history ++ Dropped ∷ []))
clock_dropped false pid clock history same = same
clock_dropped true pid clock history same = same ∙ sym (clock-dropped pid history)

-- the packets and the clock of the history are those with a dropped cell too
pub sliced_dropped : (s : SliceSteps) (history : List Cell) → Sliced s history → Sliced s (history ++ Dropped ∷ [])
sliced_dropped s history w = record {
  packets = w.packets ∙ sym (ap length (flat_map-append packet_in history (Dropped ∷ []) ∙ append-nil (live_packets history)));
  few_packets = omega (arith, w.few_packets, length-append history (Dropped ∷ []));
  clocked = clock_dropped s.milliseconds s.pcr_pid s.clock history w.clocked;
}
