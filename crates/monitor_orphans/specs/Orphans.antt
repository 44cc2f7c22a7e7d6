-- PIDs to which no table refers: ETSI TR 101 290, 5.2.3 (3.4 Unreferenced_PID: a PID that no PMT, PAT or CAT refers to within
-- half a second), by the line clock.
use Rattle.std.specs.Prelude.{ℕ, ◌-◌, List, [], ◌∷◌, ◌++◌, filter, Bool, false, not, ◌==◌, ◌&&◌, nat_lt, Option, if◌then◌else◌}
use Rattle.ts_packet.specs.declared.cell.Cell.{Cell}
use Rattle.ts_packet.specs.declared.numbers.TheConstants.{PID_COUNT}
use Rattle.ts_packet.specs.Cells.{Live, Dropped, live_packets}
use Rattle.ts_packet.specs.Header.{error_indicator_of, pid_of}
use Rattle.plugin_notes.specs.PidPackets.{numbers_below}
use Rattle.plug_psi.specs.Referred.{refers}
use Rattle.monitor_keys.specs.Keys.{span_on}
use Rattle.monitor_keys.specs.Looks.{is_guess, is_look, time_at}
use Rattle.monitor_keys.specs.declared.span.Span.{Span}
use Rattle.monitor_orphans.specs.declared.limits.TheConstants.{LONGEST_WAIT}
use Rattle.monitor_orphans.specs.declared.orphan.Orphan.{Orphan}
use Rattle.monitor_orphans.specs.declared.orphan.Orphan.TheVariants.{Unmet, Met, Since, Told}

-- the packet is on the PID; one with a transport_error_indicator is on none
abbrev pub is_on : ℕ → List ℕ → Bool
is_on pid packet = pid_of packet == pid && not (error_indicator_of packet)

-- the first packet on the PID is that at a position
abbrev pub begun : ℕ → Orphan → Orphan
begun at Unmet = Met at
begun at (Met n) = Met n
begun at (Since time) = Since time
begun at Told = Told

-- it has been met for longer than the limit, and the time is no guess
abbrev pub is_late : Span → ℕ → Bool
is_late span since = not (is_guess span) && nat_lt LONGEST_WAIT (span.after.time - since)

-- with a PCR that is read: a PID is told once; where times are a guess, it is waited for from there on
abbrev pub waited : Span → ℕ → Orphan
waited span since = if is_guess span then Since span.after.time else (if is_late span since then Told else Since since)

abbrev pub looked : Span → Orphan → Orphan
looked span Unmet = Unmet
looked span (Met n) = waited span (time_at span n)
looked span (Since time) = waited span time
looked span Told = Told

-- it is told with this PCR
abbrev pub is_told : Span → Orphan → Bool
is_told span Unmet = false
is_told span (Met n) = is_late span (time_at span n)
is_told span (Since time) = is_late span time
is_told span Told = false

-- with a packet on a PID or another one, to which a table refers or none
abbrev pub met : ℕ → Bool → Bool → Orphan → Orphan
met at on referred kept = if on then (if referred then Unmet else begun at kept) else kept

-- and, where it has a PCR that is read, with the look
abbrev pub orphan_with : Span → Bool → Bool → Orphan → Orphan
orphan_with span on referred kept =
    if is_look span
    then (if referred then Unmet else looked span (met span.at on referred kept))
    else met span.at on referred kept

abbrev pub is_told_with : Span → Bool → Bool → Orphan → Bool
is_told_with span on referred kept = is_look span && (not referred && is_told span (met span.at on referred kept))

-- a table refers to the PID after a history and a packet
abbrev pub refers_with : List Cell → List ℕ → ℕ → Bool
refers_with history packet pid = refers (live_packets history ++ packet ∷ []) pid

-- what is met of a PID with these cells, after a history
abbrev pub orphan_from : Option ℕ → ℕ → List Cell → Orphan → List Cell → Orphan
orphan_from pcr_pid pid history kept [] = kept
orphan_from pcr_pid pid history kept (Live packet labels ∷ cells) =
    orphan_from pcr_pid pid (history ++ Live packet labels ∷ [])
    (orphan_with (span_on pcr_pid history packet) (is_on pid packet) (refers_with history packet pid) kept) cells
orphan_from pcr_pid pid history kept (Dropped ∷ cells) = orphan_from pcr_pid pid (history ++ Dropped ∷ []) kept cells

abbrev pub orphan_after : Option ℕ → ℕ → List Cell → Orphan
orphan_after pcr_pid pid cells = orphan_from pcr_pid pid [] Unmet cells

-- a PID is told with a packet after a history
abbrev pub is_told_on : Option ℕ → List Cell → List ℕ → ℕ → Bool
is_told_on pcr_pid history packet pid =
    is_told_with (span_on pcr_pid history packet) (is_on pid packet) (refers_with history packet pid) (orphan_after pcr_pid pid history)

-- the PIDs that are, ascending
abbrev pub orphans_on : Option ℕ → List Cell → List ℕ → List ℕ
orphans_on pcr_pid history packet = filter (is_told_on pcr_pid history packet) (numbers_below PID_COUNT)
