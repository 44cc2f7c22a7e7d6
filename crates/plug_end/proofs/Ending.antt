-- Lemmas on what `until` keeps after a dropped cell.
use Rattle.std.proofs.Common.{◌≡◌, ℕ, List, [], ◌∷◌, ◌++◌, length, IfSome, Option, None, Some, count_by, ap, sym, ◌∙◌, append-nil, arith, length-append}
use Rattle.std.proofs.lemmas.Grind.{flat_map-append}
use Rattle.ts_packet.specs.declared.cell.Cell.{Cell}
use Rattle.ts_packet.specs.Cells.{Dropped, live_packets, packet_in}
use Rattle.ts_packet.specs.Header.{unit_start_of}
use Rattle.plug_clock.specs.StreamClock.{clock_after}
use Rattle.plug_clock.specs.declared.stream_clock.StreamClock.{StreamClock}
use Rattle.plug_clock.proofs.Ticking.{clock-dropped}
use Rattle.plug_end.specs.declared.until_conf.UntilConf.{UntilConf}
use Rattle.plug_end.specs.UntilState.{Counts}

-- a dropped cell leaves the clock, where there is one
clock_dropped : (seconds pid : Option ℕ) (clock : StreamClock) (history : List Cell) → IfSome seconds (λ n. clock ≡ clock_after pid history)
    → IfSome seconds (λ n. clock ≡ clock_after pid (history ++ Dropped ∷ []))
clock_dropped None pid clock history same = same
clock_dropped (Some n) pid clock history same = same ∙ sym (clock-dropped pid history)

-- it is no packet
live-dropped : (history : List Cell) → live_packets (history ++ Dropped ∷ []) ≡ live_packets history
live-dropped history = flat_map-append packet_in history (Dropped ∷ []) ∙ append-nil (live_packets history)

-- the numbers of the history are those with a dropped cell too
pub counts_dropped : (conf : UntilConf) (met starts : ℕ) (clock : StreamClock) (history : List Cell) (mark : ℕ) → Counts conf met starts clock history mark
    → Counts conf met starts clock (history ++ Dropped ∷ []) mark
counts_dropped conf met starts clock history mark w = record {
  packets = w.packets ∙ sym (ap length (live-dropped history));
  unit_starts_met = w.unit_starts_met ∙ sym (ap (count_by unit_start_of) (live-dropped history));
  clocked = clock_dropped conf.seconds conf.pcr_pid clock history w.clocked;
  few_packets = omega (arith, w.few_packets, length-append history (Dropped ∷ []));
  few_starts = omega (arith, w.few_starts, length-append history (Dropped ∷ []));
  marked = omega (arith, w.marked, length-append history (Dropped ∷ []));
  open_at_first = w.open_at_first;
}
