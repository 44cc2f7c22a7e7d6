-- How a key is looked at with a PCR that the stream's clock reads, by the line clock. This project's own rule, over the
-- intervals of ETSI TR 101 290, 5.2.1 to 5.2.3, which packets tell by their PCRs (ISO/IEC 13818-1, 2.4.3.5).
use Rattle.std.specs.Prelude.{ℕ, ◌-◌, Bool, true, false, not, ◌==◌, ◌&&◌, nat_lt, is_none, Option, None, Some, if◌then◌else◌}
use Rattle.plug_clock.specs.LineClock.{time_between}
use Rattle.plug_clock.specs.declared.last_clock.LastClock.{LastClock}
use Rattle.plug_clock.specs.declared.limits.TheConstants.{CLOCK_RATE}
use Rattle.monitor_keys.specs.declared.gap.Gap.{Gap}
use Rattle.monitor_keys.specs.declared.key_limit.KeyLimit.{KeyLimit}
use Rattle.monitor_keys.specs.declared.span.Span.{Span}

-- ---- the time up to a packet

-- the last PCR that was read stands at this position
abbrev pub is_read_at : ℕ → Option LastClock → Bool
is_read_at at None = false
is_read_at at (Some last) = last.at == at

-- the packet has a PCR that is read
abbrev pub is_look : Span → Bool
is_look span = is_read_at span.at span.after.last

-- with it the step clock goes on by more than a second; only a joint does, so the times up to it are a guess
abbrev pub is_guess : Span → Bool
is_guess span = nat_lt CLOCK_RATE (span.after.time - span.before.time)

-- the line clock at a position behind a PCR, up to that of the packet, which has the next one
abbrev pub time_from : Span → LastClock → ℕ → ℕ
time_from span last n =
    time_between (record { at = last.at; time = span.before.time }) (record { at = span.at; time = span.after.time }) n

-- so behind the last PCR; 0 up to the first one
abbrev pub time_at : Span → ℕ → ℕ
time_at span n = time_behind span.before.last
  where
    time_behind : Option LastClock → ℕ
    time_behind None = 0
    time_behind (Some last) = time_from span last n

-- a key that begins at this position begins behind the last PCR
abbrev pub is_new : Span → ℕ → Bool
is_new span from = begins_behind span.before.last
  where
    begins_behind : Option LastClock → Bool
    begins_behind None = true
    begins_behind (Some last) = nat_lt last.at from

-- ---- the look

-- the time from which on a key is waited for: before one is set that of its beginning
abbrev pub waited : Span → ℕ → ℕ → ℕ
waited span from since = if is_new span from then time_at span from else since

-- the time that the look sets, where the key began at a position and this is its last occurrence behind the last PCR: that of
-- the packet where times are a guess, else of the occurrence, else of the beginning, where that is behind the last PCR
abbrev pub set_time : Span → ℕ → Option ℕ → Option ℕ
set_time span from last = if is_guess span then Some span.after.time else set_by last
  where
    set_by : Option ℕ → Option ℕ
    set_by (Some n) = Some (time_at span n)
    set_by None = if is_new span from then Some (time_at span from) else None

-- the key is due, it did not occur behind the last PCR, and has been waited for beyond its limit
abbrev pub is_late : KeyLimit → Span → ℕ → Option ℕ → Bool → Bool
is_late limit span since first due = not (is_guess span) && (is_none first && (due && nat_lt limit.units (span.after.time - since)))

-- the gap that ends with an occurrence at a position
abbrev pub ended : KeyLimit → Span → ℕ → ℕ → Option Gap
ended limit span since n =
    if limit.tells_ends && nat_lt limit.units (time_at span n - since)
    then Some (record { at = n; units = time_at span n - since })
    else None

-- the gap that passes the limit with the packet; it is told once
abbrev pub passed : Span → ℕ → Bool → Option Gap
passed span since tells = if tells then Some (record { at = span.at; units = span.after.time - since }) else None

-- what is told with the look, where this is the first occurrence behind the last PCR
abbrev pub gap_with : KeyLimit → Span → ℕ → Option ℕ → Bool → Bool → Option Gap
gap_with limit span since None due told = passed span since (is_late limit span since None due && not told)
gap_with limit span since (Some n) due told = if is_guess span then None else ended limit span since n
