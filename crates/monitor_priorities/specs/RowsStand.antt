-- What is kept for each row, and the cells that it stands for. This project's own rule.
use Rattle.std.specs.Prelude.{◌≡◌, ℕ, List, Option}
use Rattle.ts_packet.specs.declared.cell.Cell.{Cell}
use Rattle.ts_packet.specs.Cells.{live_packets}
use Rattle.plug_psi.specs.ByPid.{AllStand}
use Rattle.monitor_counters.specs.MetPackets.{Remembers as HasCounters}
use Rattle.monitor_keys.specs.Keys.{KeyRule}
use Rattle.monitor_keys.specs.KeyState.{IsKey}
use Rattle.monitor_keys.specs.Since.{IsSinceLook}
use Rattle.monitor_lines.specs.declared.indicator.Indicator.{Indicator}
use Rattle.monitor_lines.specs.declared.indicator.Indicator.TheVariants as indicator
use Rattle.monitor_orphans.specs.OrphanRow.{Follows}
use Rattle.monitor_pcrs.specs.LastPcrs.{HasRate, Remembers as HasSteps}
use Rattle.monitor_services.specs.RowStands.{HasEventRow, HasPidRow, HasPmtRow, HasStampRow}
use Rattle.monitor_services.specs.declared.limits.TheConstants.{CLOCK_LIMIT}
use Rattle.monitor_services.specs.declared.pid_kind.PidKind.TheVariants.{Component, Clock}
use Rattle.monitor_tables.specs.ReaderStands.{HasRead}
use Rattle.monitor_tables.specs.TableIds.{is_scrambled}
use Rattle.monitor_tables.specs.TableKeys.{cat_key, comes_on, nit_key, pat_key, sdt_key, tdt_key}
use Rattle.monitor_priorities.specs.PriorityErrors.{cat_kind, nit_kind, pat_kind, sdt_kind, tdt_kind}
use Rattle.monitor_priorities.specs.WrongTables.{HasTold, is_read}
use Rattle.monitor_priorities.specs.declared.crc_row.CrcRow.{CrcRow}
use Rattle.monitor_priorities.specs.declared.event_rows.EventRows.{EventRows}
use Rattle.monitor_priorities.specs.declared.first_rows.FirstRows.{FirstRows}
use Rattle.monitor_priorities.specs.declared.second_rows.SecondRows.{SecondRows}
use Rattle.monitor_priorities.specs.declared.section_row.SectionRow.{SectionRow}
use Rattle.monitor_priorities.specs.declared.service_tables.ServiceTables.{ServiceTables}
use Rattle.monitor_priorities.specs.declared.table_kind.TableKind.{TableKind}
use Rattle.monitor_priorities.specs.declared.table_row.TableRow.{TableRow}
use Rattle.monitor_priorities.specs.declared.third_rows.ThirdRows.{ThirdRows}

-- the key of a table occurs where a section of it comes on its PID
abbrev pub OccursAs : TableKind → KeyRule → Type 0
OccursAs kind rule = (history : List Cell) (packet : List ℕ) → rule.occurs history packet ≡ comes_on kind.pid kind.table_id history packet

-- the key and the sections of a table are those of the cells met
pub record IsTableRow (row : TableRow) (rule : KeyRule) (history : List Cell) : Type 0 where
  pub occurs_as : OccursAs row.kind rule
  pub keyed : IsKey rule row.key history
  pub has_read : HasRead row.reader row.kind.pid (live_packets history)

-- the sections of a PID are
pub record IsSectionRow (row : SectionRow) (pid : ℕ) (indicator : Indicator) (history : List Cell) : Type 0 where
  pub pid_is : row.pid ≡ pid
  pub indicator_is : row.indicator ≡ indicator
  pub has_read : HasRead row.reader pid (live_packets history)

-- the wrong CRCs are
abbrev pub IsCrcRow : CrcRow → List Cell → Type 0
IsCrcRow row history = AllStand HasTold row.readers is_read (live_packets history)

-- the EITs are
pub record HasEvents (pcr_pid : Option ℕ) (rows : EventRows) (history : List Cell) : Type 0 where
  pub events : HasEventRow pcr_pid rows.events history
  pub has_read : HasRead rows.reader 18 (live_packets history)

-- ---- by priorities

-- a table's row, of this kind
pub record HasTable (kind : TableKind) (rule : KeyRule) (row : TableRow) (history : List Cell) : Type 0 where
  pub kind_is : row.kind ≡ kind
  pub row_is : IsTableRow row rule history

pub record HasFirst (gap : ℕ) (pcr_pid : Option ℕ) (rows : FirstRows) (history : List Cell) : Type 0 where
  pub pat : HasTable pat_kind (pat_key pcr_pid) rows.pat history
  pub counters : HasCounters rows.counters history
  pub pmts : HasPmtRow pcr_pid rows.pmts history
  pub components : HasPidRow Component gap pcr_pid rows.components history

pub record HasSecond (bitrate pcr_pid : Option ℕ) (rows : SecondRows) (history : List Cell) : Type 0 where
  pub crcs : IsCrcRow rows.crcs history
  pub clocks : HasPidRow Clock CLOCK_LIMIT pcr_pid rows.clocks history
  pub rate_is : rows.steps.bitrate ≡ bitrate
  pub rate : HasRate rows.steps.bitrate
  pub steps : HasSteps rows.steps history
  pub stamps : HasStampRow pcr_pid rows.stamps history
  pub scrambled : IsSinceLook pcr_pid is_scrambled rows.scrambled history
  pub cat : HasTable cat_kind (cat_key pcr_pid) rows.cat history

pub record HasTables (pcr_pid : Option ℕ) (tables : ServiceTables) (history : List Cell) : Type 0 where
  pub nit : HasTable nit_kind (nit_key pcr_pid) tables.nit history
  pub sdt : HasTable sdt_kind (sdt_key pcr_pid) tables.sdt history
  pub tdt : HasTable tdt_kind (tdt_key pcr_pid) tables.tdt history

pub record HasThird (pcr_pid : Option ℕ) (rows : ThirdRows) (history : List Cell) : Type 0 where
  pub tables : HasTables pcr_pid rows.tables history
  pub orphans : Follows pcr_pid rows.orphans history
  pub eits : HasEvents pcr_pid rows.eits history
  pub rst : IsSectionRow rows.rst 19 indicator.Rst history

-- the bit rate, where one is given, is some
abbrev pub MeetsSecond : SecondRows → Type 0
MeetsSecond rows = HasRate rows.steps.bitrate
