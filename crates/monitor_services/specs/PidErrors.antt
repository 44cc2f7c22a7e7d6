-- Errors on PIDs that the PMTs in force name: PID_error, ETSI TR 101 290, 5.2.1, 1.6 (packets on the PID of each component come
-- within a time that the user says), and PCR_error, 5.2.2, 2.3 (so do PCRs on each PCR_PID; that a gap above a second is
-- told once, when it passes the limit, is this project's own rule, since the steps between PCRs are told one by one).
use Rattle.std.specs.Prelude.{ℕ, List, [], ◌∷◌, length, Bool, true, false, not, is_some, Option, None, Some, if◌then◌else◌}
use Rattle.std.specs.List.{flat_map}
use Rattle.ts_packet.specs.declared.cell.Cell.{Cell}
use Rattle.ts_packet.specs.Header.{error_indicator_of, pid_of}
use Rattle.ts_table_rows.specs.TableValues.{TableHolding}
use Rattle.plug_clock.specs.StreamClock.{time_in}
use Rattle.plug_psi.specs.InForce.{pat_of, pmt_of, services_in}
use Rattle.plug_psi.specs.NumbersHeld.{number_at}
use Rattle.plug_psi.specs.ServicePids.{pcr_pids}
use Rattle.monitor_lines.specs.declared.monitor_error.MonitorError.{MonitorError}
use Rattle.monitor_rows.specs.KeyRows.{RowRule, has_number, row_gaps}
use Rattle.monitor_services.specs.Components.{sounding_pids}
use Rattle.monitor_services.specs.GapErrors.{gap_errors}
use Rattle.monitor_services.specs.declared.limits.TheConstants.{PID_NUMBERS}
use Rattle.monitor_services.specs.declared.pid_kind.PidKind.{PidKind}
use Rattle.monitor_services.specs.declared.pid_kind.PidKind.TheVariants.{Component, Clock}
use Rattle.monitor_services.specs.declared.row_kind.RowKind.{RowKind}
use Rattle.monitor_services.specs.declared.row_kind.RowKind.TheVariants.{Packets, Clocks}

-- ---- which keys there are: a PID each

-- those that a PMT names: the PIDs of components of sound or picture, or the PCR_PID, unless that is 8191
abbrev pub pids_in : PidKind → TableHolding → List ℕ
pids_in Component pmt = sounding_pids pmt
pids_in Clock pmt = pcr_pids (number_at pmt.body.values 0)

abbrev pub pids_of : PidKind → Option TableHolding → List ℕ
pids_of kind None = []
pids_of kind (Some pmt) = pids_in kind pmt

-- those that the PMT in force of a service names, which is given by its number and its PID
abbrev pub pids_by : PidKind → List (List ℕ) → ℕ × ℕ → List ℕ
pids_by kind fed service = pids_of kind (pmt_of service.0 fed)

-- those that the PMTs in force of the services of the PAT in force name
abbrev pub pids_named : PidKind → List (List ℕ) → List ℕ
pids_named kind fed = flat_map (pids_by kind fed) (services_in (pat_of fed))

-- ---- which keys occur

-- the key of its PID occurs on a packet: it came without errors; and it has a PCR
abbrev pub is_one : PidKind → List ℕ → Bool
is_one Component packet = not (error_indicator_of packet)
is_one Clock packet = is_some (time_in packet)

-- the PID of the packet, where it does
abbrev pub pid_if : Bool → List ℕ → List ℕ
pid_if is packet = if is then pid_of packet ∷ [] else []

-- ---- the row

-- the end of a gap is told
abbrev pub tells_ends : PidKind → Bool
tells_ends Component = true
tells_ends Clock = false

abbrev pub row_kind : PidKind → RowKind
row_kind Component = Packets
row_kind Clock = Clocks

abbrev pub pid_rule : PidKind → ℕ → Option ℕ → RowRule
pid_rule kind units pcr_pid = record {
  pcr_pid = pcr_pid;
  limit = record { units = units; tells_ends = tells_ends kind };
  bound = PID_NUMBERS;
  names = λ fed n. has_number (pids_named kind fed) n;
  occurs = λ fed packet n. has_number (pid_if (is_one kind packet) packet) n;
}

-- the errors that are known with a packet after a history, by PID
abbrev pub pid_errors : PidKind → ℕ → Option ℕ → List Cell → List ℕ → List MonitorError
pid_errors kind units pcr_pid history packet =
    gap_errors (row_kind kind) (length history) (row_gaps (pid_rule kind units pcr_pid) history packet)
