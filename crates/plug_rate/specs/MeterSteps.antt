-- What is kept of the measurement in hand, packet by packet. This project's own rule.
use Rattle.std.specs.Prelude.{◌≡◌, ◌≤◌, ◌+◌, ◌-◌, ℕ, List, length, Bool, ◌&&◌, ◌||◌, is_some, IfSome, Option, None, Some, if◌then◌else◌}
use Rattle.ts_packet.specs.declared.cell.Cell.{Cell}
use Rattle.plug_clock.specs.StreamClock.{clock_after, milliseconds_of}
use Rattle.plug_clock.specs.declared.stream_clock.StreamClock.{StreamClock}
use Rattle.plug_rate.specs.Bounds.{is_outside}
use Rattle.plug_rate.specs.Measures.{begins_with, counted_from, last_measure, last_point, was_outside}
use Rattle.plug_rate.specs.Rates.{has_passed, rate_of}
use Rattle.plug_rate.specs.declared.bounds.Bounds.{Bounds}
use Rattle.plug_rate.specs.declared.measure.Measure.{Measure}
use Rattle.plug_rate.specs.declared.meter.Meter.{Meter}
use Rattle.plug_rate.specs.declared.point.Point.{Point}
use Rattle.plug_rate.specs.declared.rate_conf.RateConf.{RateConf}

-- the packets that are counted since a point; none where there is no point yet
abbrev pub counted_since : RateConf → Option Point → List Cell → ℕ
counted_since conf None history = 0
counted_since conf (Some point) history = counted_from conf point.at history

-- what is kept is that of the cells met
pub record IsMeter (conf : RateConf) (meter : Meter) (history : List Cell) : Type 0 where
  pub clocked : meter.clock ≡ clock_after conf.pcr_pid history
  pub started : meter.start ≡ last_point conf history
  pub counted : meter.count ≡ counted_since conf meter.start history
  pub outside_is : meter.is_outside ≡ was_outside conf.bounds (last_measure conf history)
  pub begun : IfSome meter.start (λ point. (point.at ≤ length history) × (point.time ≤ meter.clock.time))
  pub few : meter.count ≤ length history

-- what is measured from a point by the packets counted since, up to a packet at a position with which it is a time
abbrev pub measure_from : Point → ℕ → ℕ → ℕ → Measure
measure_from point count at time = record { at = at; time = milliseconds_of time; bitrate = rate_of count (time - point.time) }

-- so, where there is a point
abbrev pub measured_by : Option Point → ℕ → ℕ → ℕ → Option Measure
measured_by None count at time = None
measured_by (Some point) count at time = Some (measure_from point count at time)

-- what is measured where the clock goes on to this one with a packet at a position
abbrev pub measure_with : Meter → ℕ → ℕ → StreamClock → Option Measure
measure_with meter interval at clock =
    if has_passed interval meter.clock.time clock.time then measured_by meter.start meter.count at clock.time else None

-- one more packet, which is counted or not, where there is a point
abbrev pub count_with : Option Point → ℕ → Bool → ℕ
count_with start count counts = if is_some start && counts then count + 1 else count

-- the clock goes on to this one with a packet, from which a new measurement is made
abbrev pub is_point : Meter → ℕ → StreamClock → Bool
is_point meter interval clock = begins_with meter.clock clock || has_passed interval meter.clock.time clock.time

-- what is kept after a packet at a position with which the clock is this one
abbrev pub meter_with : Meter → ℕ → ℕ → StreamClock → Bool → Bool → Meter
meter_with meter interval at clock counts outside =
    if is_point meter interval clock
    then record { clock = clock; start = Some (record { at = at; time = clock.time }); count = if counts then 1 else 0; is_outside = outside }
    else record { clock = clock; start = meter.start; count = count_with meter.start meter.count counts; is_outside = outside }

-- the last measurement is outside of the bounds, with one more where there is one
abbrev pub outside_with : Bounds → Bool → Option Measure → Bool
outside_with bounds outside None = outside
outside_with bounds outside (Some measure) = is_outside bounds measure.bitrate

-- one more packet can be counted, and the last point is not after the clock
pub record HasMeterRoom (meter : Meter) : Type 0 where
  pub few : meter.count ≤ 4611686018427387904
  pub begun : IfSome meter.start (λ point. point.time ≤ meter.clock.time)
