-- What `rate` measures. This project's own rule.
use Rattle.std.specs.Prelude.{ℕ, ◌-◌, List, [], ◌∷◌, length, drop, count_by, Bool, false, ◌&&◌, ◌||◌, is_none, is_some, option_map, option_to_list, Option, None, Some, if◌then◌else◌}
use Rattle.std.specs.List.{last_or}
use Rattle.ts_packet.specs.declared.cell.Cell.{Cell}
use Rattle.ts_packet.specs.Cells.{live_packets}
use Rattle.ts_packet.specs.Header.{pid_of}
use Rattle.plugin_notes.specs.Notes.{notes_after}
use Rattle.plugin_options.specs.Selection.{is_selected}
use Rattle.plug_clock.specs.StreamClock.{clock_after, clock_met, milliseconds_of}
use Rattle.plug_clock.specs.declared.stream_clock.StreamClock.{StreamClock}
use Rattle.plug_rate.specs.Bounds.{is_outside, verdict_of}
use Rattle.plug_rate.specs.Rates.{has_passed, rate_of}
use Rattle.plug_rate.specs.declared.bounds.Bounds.{Bounds}
use Rattle.plug_rate.specs.declared.judged.Judged.{Judged}
use Rattle.plug_rate.specs.declared.measure.Measure.{Measure}
use Rattle.plug_rate.specs.declared.point.Point.{Point}
use Rattle.plug_rate.specs.declared.rate_conf.RateConf.{RateConf}

-- ---- where measurements begin and end

-- the stream's clock with the packet after a history
abbrev pub clock_with : RateConf → List Cell → List ℕ → StreamClock
clock_with conf history packet = clock_met (clock_after conf.pcr_pid history) (length history) packet

-- the packet has the first PCR that the clock reads
abbrev pub begins_with : StreamClock → StreamClock → Bool
begins_with before after = is_none before.last && is_some after.last

-- with the packet one interval or more have passed
abbrev pub ends_on : RateConf → List Cell → List ℕ → Bool
ends_on conf history packet = has_passed conf.interval (clock_after conf.pcr_pid history).time (clock_with conf history packet).time

-- a packet of either kind, with the time
abbrev pub point_on : RateConf → List Cell → List ℕ → List Point
point_on conf history packet =
    if begins_with (clock_after conf.pcr_pid history) (clock_with conf history packet) || ends_on conf history packet
    then record { at = length history; time = (clock_with conf history packet).time } ∷ []
    else []

-- all of them, and the last one
abbrev pub points_in : RateConf → List Cell → List Point
points_in conf cells = notes_after (point_on conf) [] cells

abbrev pub last_point : RateConf → List Cell → Option Point
last_point conf cells = last_or None (points_in conf cells)

-- ---- what is measured

-- the packet is on a PID that is counted
abbrev pub is_counted : RateConf → List ℕ → Bool
is_counted conf packet = is_selected conf.pid false (pid_of packet)

-- how many such packets are at a position or behind it
abbrev pub counted_from : RateConf → ℕ → List Cell → ℕ
counted_from conf at cells = count_by (is_counted conf) (live_packets (drop at cells))

-- the rate from a point up to a packet with which it is a time, by the packets before it
abbrev pub measured_from : RateConf → List Cell → ℕ → Option Point → Option Measure
measured_from conf history time None = None
measured_from conf history time (Some point) = Some (record {
  at = length history;
  time = milliseconds_of time;
  bitrate = rate_of (counted_from conf point.at history) (time - point.time);
})

-- a packet with which an interval has passed has the rate from the last point on
abbrev pub measure_on : RateConf → List Cell → List ℕ → Option Measure
measure_on conf history packet =
    if ends_on conf history packet then measured_from conf history (clock_with conf history packet).time (last_point conf history) else None

-- the measurements of the cells, and the last one
abbrev pub measures_on : RateConf → List Cell → List ℕ → List Measure
measures_on conf history packet = option_to_list (measure_on conf history packet)

abbrev pub last_measure : RateConf → List Cell → Option Measure
last_measure conf cells = last_or None (notes_after (measures_on conf) [] cells)

-- ---- how it stands to the bounds

-- the last measurement was outside of the bounds
abbrev pub was_outside : Bounds → Option Measure → Bool
was_outside bounds None = false
was_outside bounds (Some measure) = is_outside bounds measure.bitrate

-- a measurement with its verdict, where the one before was outside or not
abbrev pub judged_by : Bounds → Bool → Measure → Judged
judged_by bounds outside measure = record { measure = measure; verdict = verdict_of bounds outside measure.bitrate }

-- the measurement of a packet with its verdict
abbrev pub judged_on : RateConf → List Cell → List ℕ → List Judged
judged_on conf history packet =
    option_to_list (option_map (judged_by conf.bounds (was_outside conf.bounds (last_measure conf history))) (measure_on conf history packet))

-- all measurements of the cells
abbrev pub judged_in : RateConf → List Cell → List Judged
judged_in conf cells = notes_after (judged_on conf) [] cells

-- the position of a measurement, and of one that is judged
abbrev pub place_of_measure : Measure → ℕ
place_of_measure measure = measure.at

abbrev pub place_of : Judged → ℕ
place_of judged = judged.measure.at
