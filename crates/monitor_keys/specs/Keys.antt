-- A key: what has to occur again and again, each time within a limit, while it is asked for. This project's own rule, over
-- ETSI TR 101 290: 5.2.1 (1.3 PAT, 1.5 PMT, 1.6 PID), 5.2.2 (2.3 PCR, 2.5 PTS, 2.6 CAT), 5.2.3 (3.1 NIT, 3.5 SDT, 3.6 EIT,
-- 3.8 TDT), each with its limit.
use Rattle.std.specs.Prelude.{ℕ, ◌+◌, List, [], ◌∷◌, ◌++◌, length, take, drop, Bool, true, false, ◌&&◌, nat_le, option_to_list, Option, None, Some, if◌then◌else◌}
use Rattle.std.specs.List.{last_or}
use Rattle.ts_packet.specs.declared.cell.Cell.{Cell}
use Rattle.plugin_notes.specs.Notes.{notes_after}
use Rattle.plug_clock.specs.StreamClock.{clock_after, clock_met}
use Rattle.plug_clock.specs.declared.last_clock.LastClock.{LastClock}
use Rattle.monitor_keys.specs.declared.gap.Gap.{Gap}
use Rattle.monitor_keys.specs.declared.key_limit.KeyLimit.{KeyLimit}
use Rattle.monitor_keys.specs.declared.span.Span.{Span}
use Rattle.monitor_keys.specs.Looks.{gap_with, is_late, is_look, set_time, waited}

-- a key: whose PCRs tell the time, at which position it began, its limit, on which packets it occurs, and with which it is due
-- at all (CAT_error asks for scrambled packets, 5.2.2; any other key is always due)
pub record KeyRule : Type 0 where
  pub pcr_pid : Option ℕ
  pub from : ℕ
  pub limit : KeyLimit
  pub occurs : List Cell → List ℕ → Bool
  pub is_due : List Cell → List ℕ → Bool

-- the packet after a history, with the stream's clock before and with it
abbrev pub span_on : Option ℕ → List Cell → List ℕ → Span
span_on pid history packet = record {
  before = clock_after pid history;
  at = length history;
  after = clock_met (clock_after pid history) (length history) packet;
}

-- ---- what is noted from a position on

-- the notes on the packets from a position on
abbrev pub noted_from : {N : Type 0} → (List Cell → List ℕ → List N) → ℕ → List Cell → List N
noted_from note k cells = notes_after note (take k cells) (drop k cells)

-- the first one, if there is one
abbrev pub first_of : List ℕ → Option ℕ
first_of [] = None
first_of (n ∷ ns) = Some n

-- there is one
abbrev pub has_some : List ℕ → Bool
has_some [] = false
has_some (n ∷ ns) = true

-- the position of the packet, where it is noted
abbrev pub place_if : Bool → ℕ → List ℕ
place_if is n = if is then n ∷ [] else []

-- ---- occurrences

-- the position behind the last PCR; 0 before the first
abbrev pub behind : Option LastClock → ℕ
behind None = 0
behind (Some last) = last.at + 1

-- the position of the packet, where the key occurs on it
abbrev pub occurs_on : KeyRule → List Cell → List ℕ → List ℕ
occurs_on rule history packet = place_if (rule.occurs history packet) (length history)

-- from where on its occurrences have not been looked at: behind the last PCR, and not before its beginning
abbrev pub open_from : KeyRule → Option LastClock → ℕ
open_from rule last = if nat_le rule.from (behind last) then behind last else rule.from

-- the positions of these
abbrev pub places_open : KeyRule → List Cell → List ℕ
places_open rule cells = noted_from (occurs_on rule) (open_from rule (clock_after rule.pcr_pid cells).last) cells

-- with the packet
abbrev pub places_with : KeyRule → List Cell → List ℕ → List ℕ
places_with rule history packet = places_open rule history ++ occurs_on rule history packet

-- ---- the time from which on it is waited for

-- a time that a look sets, and the position of the look
pub record Waiting : Type 0 where
  pub at : ℕ
  pub time : ℕ

abbrev pub waiting_at : ℕ → Option ℕ → List Waiting
waiting_at at None = []
waiting_at at (Some time) = record { at = at; time = time } ∷ []

-- the time that is set with the packet, where it has a PCR that is read
abbrev pub set_on : KeyRule → List Cell → List ℕ → List Waiting
set_on rule history packet =
    if is_look (span_on rule.pcr_pid history packet)
    then waiting_at (length history) (set_time (span_on rule.pcr_pid history packet) rule.from (last_or None (places_with rule history packet)))
    else []

-- the last one that was set since the beginning
abbrev pub last_set : KeyRule → List Cell → Option Waiting
last_set rule cells = last_or None (noted_from (set_on rule) rule.from cells)

abbrev pub time_set : Option Waiting → ℕ
time_set None = 0
time_set (Some set) = set.time

-- the position from which on it holds: that of the beginning before a time is set
abbrev pub place_set : ℕ → Option Waiting → ℕ
place_set from None = from
place_set from (Some set) = set.at

-- the time from which on the key is waited for, as the packet is looked at
abbrev pub waited_on : KeyRule → List Cell → List ℕ → ℕ
waited_on rule history packet = waited (span_on rule.pcr_pid history packet) rule.from (time_set (last_set rule history))

-- ---- what is told

-- the packet has a PCR that is read, with which the key is late
abbrev pub is_late_on : KeyRule → List Cell → List ℕ → Bool
is_late_on rule history packet =
    is_look (span_on rule.pcr_pid history packet)
    && is_late rule.limit (span_on rule.pcr_pid history packet) (waited_on rule history packet) (first_of (places_with rule history packet)) (rule.is_due history packet)

abbrev pub late_on : KeyRule → List Cell → List ℕ → List ℕ
late_on rule history packet = place_if (is_late_on rule history packet) (length history)

-- with one of the looks since the time was set it was late
abbrev pub was_late : KeyRule → List Cell → Bool
was_late rule cells = has_some (noted_from (late_on rule) (place_set rule.from (last_set rule cells)) cells)

-- the gap that is told with a packet, where it has a PCR that is read: one that ends behind the last PCR, or one that passes the
-- limit without an end, which is told once
abbrev pub gap_on : KeyRule → List Cell → List ℕ → Option Gap
gap_on rule history packet =
    if is_look (span_on rule.pcr_pid history packet)
    then gap_with rule.limit (span_on rule.pcr_pid history packet) (waited_on rule history packet) (first_of (places_with rule history packet))
    (rule.is_due history packet) (was_late rule history)
    else None

-- the gaps that are told with the cells from its beginning on
abbrev pub gaps_on : KeyRule → List Cell → List ℕ → List Gap
gaps_on rule history packet = option_to_list (gap_on rule history packet)

abbrev pub gaps_in : KeyRule → List Cell → List Gap
gaps_in rule cells = noted_from (gaps_on rule) rule.from cells
