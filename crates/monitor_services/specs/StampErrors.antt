-- PTS_error: ETSI TR 101 290, 5.2.2, 2.5. Presentation time stamps of each component of sound or picture come within 700 ms.
-- That a PID is waited for from the first time stamp that it has had since the PMTs in force name it, and that scrambled packets
-- count as such, since their time stamps are not seen, is this project's own rule.
use Rattle.std.specs.Prelude.{ℕ, List, [], ◌∷◌, ◌++◌, length, Bool, true, false, ◌==◌, ◌&&◌, ◌||◌, is_some, Option}
use Rattle.ts_packet.specs.declared.cell.Cell.{Cell}
use Rattle.ts_packet.specs.Header.{pid_of}
use Rattle.plug_times.specs.Stamps.{times_on}
use Rattle.monitor_lines.specs.declared.monitor_error.MonitorError.{MonitorError}
use Rattle.monitor_rows.specs.KeyRows.{RowRule, has_number, row_gaps}
use Rattle.monitor_tables.specs.TableIds.{is_scrambled}
use Rattle.monitor_services.specs.GapErrors.{gap_errors}
use Rattle.monitor_services.specs.PidErrors.{pid_if, pids_named}
use Rattle.monitor_services.specs.declared.limits.TheConstants.{PID_NUMBERS, STAMP_LIMIT}
use Rattle.monitor_services.specs.declared.pid_kind.PidKind.TheVariants.{Component}
use Rattle.monitor_services.specs.declared.row_kind.RowKind.TheVariants.{Stamps}

-- ---- which keys there are: a PID each

-- the packet has a PTS
abbrev pub has_stamp : List ℕ → Bool
has_stamp packet = is_some (times_on packet).presentation

-- the PMTs in force name the PID for a component of sound or picture
abbrev pub is_component : List (List ℕ) → ℕ → Bool
is_component fed pid = has_number (pids_named Component fed) pid

-- with a packet after others the PID is waited for: it is that of a component, and was waited for, or has a PTS now
abbrev pub starts_with : List (List ℕ) → List ℕ → ℕ → Bool → Bool
starts_with fed packet pid was = is_component (fed ++ packet ∷ []) pid && (was || (pid_of packet == pid && has_stamp packet))

abbrev pub starts_from : List (List ℕ) → ℕ → Bool → List (List ℕ) → Bool
starts_from fed pid was [] = was
starts_from fed pid was (packet ∷ packets) = starts_from (fed ++ packet ∷ []) pid (starts_with fed packet pid was) packets

-- one of these PIDs, where it is that of a component, is waited for with a packet
abbrev pub starts_in : List ℕ → List ℕ → ℕ → Bool
starts_in started packet pid = has_number started pid || (pid_of packet == pid && has_stamp packet)

-- after packets it is waited for
abbrev pub is_started : List (List ℕ) → ℕ → Bool
is_started fed pid = starts_from [] pid false fed

-- ---- the row

abbrev pub stamp_rule : Option ℕ → RowRule
stamp_rule pcr_pid = record {
  pcr_pid = pcr_pid;
  limit = record { units = STAMP_LIMIT; tells_ends = true };
  bound = PID_NUMBERS;
  names = is_started;
  occurs = λ fed packet n. has_number (pid_if (has_stamp packet || is_scrambled packet) packet) n;
}

-- the errors that are known with a packet after a history, by PID
abbrev pub stamp_errors : Option ℕ → List Cell → List ℕ → List MonitorError
stamp_errors pcr_pid history packet = gap_errors Stamps (length history) (row_gaps (stamp_rule pcr_pid) history packet)
