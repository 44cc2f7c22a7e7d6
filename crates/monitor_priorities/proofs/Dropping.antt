-- Lemmas on what is kept of rows behind a cell whose packet was dropped.
use Rattle.std.proofs.Common.{ℕ, List, [], ◌∷◌, ◌++◌, sym, subst, Option}
use Rattle.ts_packet.specs.declared.cell.Cell.{Cell}
use Rattle.ts_packet.specs.Cells.{Dropped}
use Rattle.monitor_keys.specs.Keys.{KeyRule}
use Rattle.monitor_keys.specs.KeyState.{IsKey}
use Rattle.monitor_lines.specs.declared.indicator.Indicator.{Indicator}
use Rattle.monitor_services.proofs.Naming.{dropped-more}
use Rattle.monitor_services.specs.RowStands.{HasEventRow}
use Rattle.monitor_tables.specs.ReaderStands.{HasRead}
use Rattle.plug_psi.specs.ByPid.{AllStand}
use Rattle.monitor_priorities.specs.RowsStand.{HasEvents, HasTable, IsCrcRow, IsSectionRow}
use Rattle.monitor_priorities.specs.WrongTables.{HasTold, is_read}
use Rattle.monitor_priorities.specs.declared.crc_row.CrcRow.{CrcRow}
use Rattle.monitor_priorities.specs.declared.event_rows.EventRows.{EventRows}
use Rattle.monitor_priorities.specs.declared.section_row.SectionRow.{SectionRow}
use Rattle.monitor_priorities.specs.declared.table_kind.TableKind.{TableKind}
use Rattle.monitor_priorities.specs.declared.table_row.TableRow.{TableRow}

pub table-dropped : (kind : TableKind) (rule : KeyRule) (row : TableRow) (history : List Cell) → (IsKey rule row.key history → IsKey rule row.key (history ++ Dropped ∷ []))
    → HasTable kind rule row history → HasTable kind rule row (history ++ Dropped ∷ [])
table-dropped kind rule row history key has = record {
  kind_is = has.kind_is;
  row_is = record {
    occurs_as = has.row_is.occurs_as;
    keyed = key has.row_is.keyed;
    has_read = subst (HasRead row.reader row.kind.pid) (sym (dropped-more history)) has.row_is.has_read;
  };
}

pub sections-dropped : (row : SectionRow) (pid : ℕ) (indicator : Indicator) (history : List Cell) → IsSectionRow row pid indicator history
    → IsSectionRow row pid indicator (history ++ Dropped ∷ [])
sections-dropped row pid indicator history has = record {
  pid_is = has.pid_is;
  indicator_is = has.indicator_is;
  has_read = subst (HasRead row.reader pid) (sym (dropped-more history)) has.has_read;
}

pub events-dropped : (pcr_pid : Option ℕ) (rows : EventRows) (history : List Cell)
    → (HasEventRow pcr_pid rows.events history → HasEventRow pcr_pid rows.events (history ++ Dropped ∷ [])) → HasEvents pcr_pid rows history
    → HasEvents pcr_pid rows (history ++ Dropped ∷ [])
events-dropped pcr_pid rows history events has = record {
  events = events has.events;
  has_read = subst (HasRead rows.reader 18) (sym (dropped-more history)) has.has_read;
}

pub crcs-dropped : (row : CrcRow) (history : List Cell) → IsCrcRow row history → IsCrcRow row (history ++ Dropped ∷ [])
crcs-dropped row history has = subst (AllStand HasTold row.readers is_read) (sym (dropped-more history)) has
