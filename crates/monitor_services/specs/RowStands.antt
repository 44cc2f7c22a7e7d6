-- What is kept of each row, and what it means. This project's own rule.
use Rattle.std.specs.Prelude.{◌≡◌, ℕ, List, [], ◌∷◌, ◌++◌, filter, Option}
use Rattle.ts_packet.specs.declared.cell.Cell.{Cell}
use Rattle.ts_packet.specs.Cells.{Live, live_packets}
use Rattle.plugin_notes.specs.PidPackets.{numbers_below}
use Rattle.plug_psi.specs.ByPid.{AllStand}
use Rattle.plug_psi.specs.InForce.{follows}
use Rattle.plug_psi.specs.declared.by_pid.ByPid.{ByPid}
use Rattle.monitor_services.specs.CurrentSdt.{HasFedSdt}
use Rattle.monitor_rows.specs.RowStands.{HasKeys, IsRow}
use Rattle.monitor_tables.specs.ReaderStands.{HasRead}
use Rattle.monitor_services.specs.EventErrors.{event_rule}
use Rattle.monitor_services.specs.PidErrors.{pid_rule}
use Rattle.monitor_services.specs.PmtErrors.{pmt_rule}
use Rattle.monitor_services.specs.StampErrors.{is_component, is_started, stamp_rule}
use Rattle.monitor_services.specs.declared.event_row.EventRow.{EventRow}
use Rattle.monitor_services.specs.declared.limits.TheConstants.{PID_NUMBERS}
use Rattle.monitor_services.specs.declared.pid_kind.PidKind.{PidKind}
use Rattle.monitor_services.specs.declared.pid_row.PidRow.{PidRow}
use Rattle.monitor_services.specs.declared.pmt_reader.PmtReader.{PmtReader}
use Rattle.monitor_services.specs.declared.pmt_row.PmtRow.{PmtRow}
use Rattle.monitor_services.specs.declared.stamp_row.StampRow.{StampRow}

-- a reader has read the packets that were taken on its PID
abbrev pub ReaderStands : PmtReader → ℕ → List (List ℕ) → Type 0
ReaderStands it pid taken = HasRead it.reader pid taken

-- so have all readers
abbrev pub HaveRead : ByPid PmtReader → List (List ℕ) → Type 0
HaveRead readers fed = AllStand ReaderStands readers follows fed

pub record HasPmtRow (pcr_pid : Option ℕ) (row : PmtRow) (history : List Cell) : Type 0 where
  pub keys_are : IsRow (pmt_rule pcr_pid) row.keys history
  pub have_read : HaveRead row.readers (live_packets history)

pub record HasPidRow (kind : PidKind) (units : ℕ) (pcr_pid : Option ℕ) (row : PidRow) (history : List Cell) : Type 0 where
  pub kind_is : row.kind ≡ kind
  pub keys_are : IsRow (pid_rule kind units pcr_pid) row.keys history

-- the PIDs of components, and those of them that are waited for, ascending
pub record HasStarted (row : StampRow) (fed : List (List ℕ)) : Type 0 where
  pub components_are : row.components.items ≡ filter (is_component fed) (numbers_below PID_NUMBERS)
  pub started_are : row.started.items ≡ filter (is_started fed) (numbers_below PID_NUMBERS)

pub record HasStampRow (pcr_pid : Option ℕ) (row : StampRow) (history : List Cell) : Type 0 where
  pub keys_are : IsRow (stamp_rule pcr_pid) row.keys history
  pub started : HasStarted row (live_packets history)

-- the tables in force with a packet have named its keys, which have not met it
pub record IsNamedWith (pcr_pid : Option ℕ) (row : StampRow) (history : List Cell) (packet : List ℕ) (labels : ℕ) : Type 0 where
  pub keys_named : HasKeys (stamp_rule pcr_pid) row.keys history (history ++ Live packet labels ∷ [])
  pub started : HasStarted row (live_packets history ++ packet ∷ [])

pub record HasEventRow (pcr_pid : Option ℕ) (row : EventRow) (history : List Cell) : Type 0 where
  pub keys_are : IsRow (event_rule pcr_pid) row.keys history
  pub fed_are : HasFedSdt row.sdt (live_packets history)
