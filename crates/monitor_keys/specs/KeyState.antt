-- What is kept of a key, packet by packet. This project's own rule.
use Rattle.std.specs.Prelude.{◌≡◌, ◌≤◌, ℕ, List, length, Bool, false, ◌||◌, Option, None, Some, if◌then◌else◌}
use Rattle.std.specs.List.{last_or}
use Rattle.ts_packet.specs.declared.cell.Cell.{Cell}
use Rattle.monitor_keys.specs.declared.gap.Gap.{Gap}
use Rattle.monitor_keys.specs.declared.key.Key.{Key}
use Rattle.monitor_keys.specs.declared.key_limit.KeyLimit.{KeyLimit}
use Rattle.monitor_keys.specs.declared.span.Span.{Span}
use Rattle.monitor_keys.specs.Keys.{KeyRule, first_of, last_set, place_set, places_open, time_set, was_late}
use Rattle.monitor_keys.specs.Looks.{gap_with, is_late, is_look, set_time, waited}

-- what is kept is that of the cells met, from the beginning of the key on
pub record IsKey (rule : KeyRule) (key : Key) (history : List Cell) : Type 0 where
  pub from_is : key.from ≡ rule.from
  pub limit_is : key.limit ≡ rule.limit
  pub since_is : key.since ≡ time_set (last_set rule history)
  pub told_is : key.was_late ≡ was_late rule history
  pub first_is : key.first ≡ first_of (places_open rule history)
  pub last_is : key.last ≡ last_or None (places_open rule history)
  pub begun : rule.from ≤ length history
  pub set_before : place_set rule.from (last_set rule history) ≤ length history

-- a key that begins at a position
abbrev pub fresh_key : ℕ → KeyLimit → Key
fresh_key at limit = record { from = at; limit = limit; since = 0; was_late = false; first = None; last = None }

-- the first and the last of the occurrences with one at a position, where there is one
abbrev pub first_with : Option ℕ → Bool → ℕ → Option ℕ
first_with None occurs at = if occurs then Some at else None
first_with (Some n) occurs at = Some n

abbrev pub last_with : Option ℕ → Bool → ℕ → Option ℕ
last_with last occurs at = if occurs then Some at else last

-- what is told with a packet whose look is this one
abbrev pub gap_told : Key → Span → Bool → Bool → Option Gap
gap_told key span occurs due =
    if is_look span
    then gap_with key.limit span (waited span key.from key.since) (first_with key.first occurs span.at) due key.was_late
    else None

-- the time from which on the key is waited for after a look that sets this one, or none
abbrev pub since_with : Option ℕ → ℕ → ℕ
since_with None since = since
since_with (Some time) since = time

-- it was late since the time was set, with a look that is late or not
abbrev pub late_with : Option ℕ → Bool → Bool → Bool
late_with None was is = was || is
late_with (Some time) was is = is

-- the key after a look
abbrev pub looked : Key → Span → Bool → Bool → Key
looked key span occurs due = record key {
  since = since_with (set_time span key.from (last_with key.last occurs span.at)) key.since;
  was_late = late_with (set_time span key.from (last_with key.last occurs span.at)) key.was_late
      (is_late key.limit span (waited span key.from key.since) (first_with key.first occurs span.at) due);
  first = None;
  last = None;
}

-- the key after a packet
abbrev pub key_with : Key → Span → Bool → Bool → Key
key_with key span occurs due =
    if is_look span then looked key span occurs due
    else record key { first = first_with key.first occurs span.at; last = last_with key.last occurs span.at }
