-- Lemmas on a packet on another PID than the sections of a reader, and on the row of a table where it has no PCR that is read.
use Rattle.std.proofs.Common.{◌≡◌, ℕ, List, [], ◌∷◌, ◌++◌, length, drop, ap, sym, subst, ◌∙◌, refl, Bool, true, false, ◌==◌, ◌&&◌, not, append-nil, ap₂, map, is_some, None, arith, drop_of_length-le, option_to_list}
use Rattle.ts_packet.specs.declared.cell.Cell.{Cell}
use Rattle.ts_packet.specs.Cells.{Live, live_packets}
use Rattle.ts_packet.specs.Header.{error_indicator_of, pid_of, scrambling_of}
use Rattle.ts_packet.specs.Payload.{payload_start_of}
use Rattle.ts_demux.specs.CountedPackets.{counts}
use Rattle.ts_demux.specs.DemuxState.{DemuxState, StandsFor, TakesIn}
use Rattle.ts_demux.specs.SectionsOfPid.{sections_of_pid}
use Rattle.monitor_keys.specs.declared.key.Key.{Key}
use Rattle.monitor_keys.specs.declared.span.Span.{Span}
use Rattle.monitor_keys.specs.Keys.{KeyRule, gap_on, span_on}
use Rattle.monitor_keys.specs.KeyState.{IsKey}
use Rattle.monitor_keys.specs.Looks.{is_look}
use Rattle.monitor_lines.specs.declared.indicator.Indicator.{Indicator}
use Rattle.monitor_lines.specs.declared.monitor_error.MonitorError.{MonitorError}
use Rattle.monitor_services.proofs.Naming.{live-more}
use Rattle.monitor_tables.specs.ReaderStands.{HasRead}
use Rattle.monitor_tables.specs.declared.section_reader.SectionReader.{SectionReader}
use Rattle.monitor_tables.specs.TableIds.{has_table, sections_with, strangers_in}
use Rattle.monitor_priorities.specs.RowErrors.{gap_error, stranger_errors, table_error, table_errors}
use Rattle.monitor_priorities.specs.RowsStand.{IsTableRow}
use Rattle.monitor_priorities.specs.declared.table_row.TableRow.{TableRow}

first_not : (a b : Bool) → true ≡ (not a && not b) → a ≡ false
first_not true b e = cc
first_not false b e = refl

second_not : (a b : Bool) → true ≡ (not a && not b) → b ≡ false
second_not true b e = cc
second_not false true e = cc
second_not false false e = refl

-- ---- a reader and a packet on another PID

module _ (reader : SectionReader) (pid : ℕ) (fed : List (List ℕ)) (packet : List ℕ) (w : HasRead reader pid fed) (other : (pid_of packet == pid) ≡ false)
    (passes : (demux : DemuxState) (packet : List ℕ) → counts demux.pid packet ≡ false → TakesIn demux demux packet 0) where
  not_counted : counts reader.demux.pid packet ≡ false
  not_counted =
      ap (λ (n : ℕ). counts n packet) w.same_pid
      ∙ ap (λ (b : Bool). b && ((scrambling_of packet == 0) && (not (error_indicator_of packet) && is_some (payload_start_of packet)))) other

  stands : StandsFor reader.demux pid (fed ++ packet ∷ []) (sections_of_pid pid fed)
  stands = (passes reader.demux packet not_counted).stands pid fed (sections_of_pid pid fed) w

  same_sections : sections_of_pid pid (fed ++ packet ∷ []) ≡ sections_of_pid pid fed
  same_sections = stands.sections ∙ sym w.sections

  -- the reader is left as it is
  pub reads_on : HasRead reader pid (fed ++ packet ∷ [])
  reads_on = subst (StandsFor reader.demux pid (fed ++ packet ∷ [])) (sym same_sections) stands

  -- and gives no section
  pub gives_none : sections_with pid fed packet ≡ []
  gives_none =
      ap (drop (length (sections_of_pid pid fed))) same_sections
      ∙ drop_of_length-le (sections_of_pid pid fed) (omega arith)

-- no section is a stranger
pub no_strangers : (indicator : Indicator) (pid : ℕ) (history : List Cell) (packet : List ℕ) (errors : List MonitorError)
    → sections_with pid (live_packets history) packet ≡ [] → errors ≡ errors ++ stranger_errors indicator pid history packet
no_strangers indicator pid history packet errors none =
    sym (append-nil errors)
    ∙ ap (λ (sections : List (List ℕ)). errors ++ map (table_error indicator (length history)) (strangers_in pid sections)) (sym none)

-- ---- a row and a packet on another PID that has no PCR that is read

module _ (row : TableRow) (rule : KeyRule) (history : List Cell) (packet : List ℕ) (span : Span) (w : IsTableRow row rule history)
    (span_is : span ≡ span_on rule.pcr_pid history packet) (quiet : true ≡ (not (pid_of packet == row.kind.pid) && not (is_look span)))
    (passes : (demux : DemuxState) (packet : List ℕ) → counts demux.pid packet ≡ false → TakesIn demux demux packet 0) where
  no_look : is_look (span_on rule.pcr_pid history packet) ≡ false
  no_look = sym (ap is_look span_is) ∙ second_not (pid_of packet == row.kind.pid) (is_look span) quiet

  other_pid : (pid_of packet == row.kind.pid) ≡ false
  other_pid = first_not (pid_of packet == row.kind.pid) (is_look span) quiet

  none_with : sections_with row.kind.pid (live_packets history) packet ≡ []
  none_with = gives_none row.reader row.kind.pid (live_packets history) packet w.has_read other_pid passes

  none_occurs : rule.occurs history packet ≡ false
  none_occurs = w.occurs_as history packet ∙ ap (has_table row.kind.table_id) none_with

  pub row_passed : (labels : ℕ)
      → ((rule : KeyRule) (key : Key) (history : List Cell) (packet : List ℕ) (labels : ℕ) → IsKey rule key history
      → is_look (span_on rule.pcr_pid history packet) ≡ false → rule.occurs history packet ≡ false → IsKey rule key (history ++ Live packet labels ∷ []))
      → IsTableRow row rule (history ++ Live packet labels ∷ [])
  row_passed labels leaves = record {
    occurs_as = w.occurs_as;
    keyed = leaves rule row.key history packet labels w.keyed no_look none_occurs;
    has_read = subst (HasRead row.reader row.kind.pid) (sym (live-more history packet labels))
        (reads_on row.reader row.kind.pid (live_packets history) packet w.has_read other_pid passes);
  }

  pub nothing_told : ((rule : KeyRule) (history : List Cell) (packet : List ℕ) → is_look (span_on rule.pcr_pid history packet) ≡ false
      → gap_on rule history packet ≡ None) → (errors : List MonitorError) → errors ≡ errors ++ table_errors row.kind rule history packet
  nothing_told none errors =
      sym (append-nil errors)
      ∙ ap (λ (es : List MonitorError). errors ++ es)
      (ap₂ (λ gaps ids. map (gap_error row.kind.indicator row.kind.missing (length history)) gaps ++ map (table_error row.kind.indicator (length history)) ids)
      (sym (ap option_to_list (none rule history packet no_look))) (sym (ap (strangers_in row.kind.pid) none_with)))
