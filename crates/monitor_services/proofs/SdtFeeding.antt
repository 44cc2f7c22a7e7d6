-- Lemmas on the SDT that is kept, packet by packet.
use Rattle.std.proofs.Common.{◌≡◌, ℕ, ◌==◌, ◌&&◌, true, false, List, [], ◌∷◌, ◌++◌, filter, length, Option, refl, sym, subst, ◌∙◌, ap}
use Rattle.std.specs.Prelude.{None, is_some, not, option_map}
use Rattle.std.specs.List.{flat_map}
use Rattle.std.proofs.lemmas.Bool.{and_parts, eqb-true, not-true}
use Rattle.std.proofs.lemmas.List.{nil_from_length}
use Rattle.ts_packet.specs.declared.cell.Cell.{Cell}
use Rattle.ts_packet.specs.Cells.{Live, live_packets}
use Rattle.ts_packet.specs.Header.{error_indicator_of, pid_of, scrambling_of}
use Rattle.ts_packet.specs.Payload.{payload_start_of}
use Rattle.ts_demux.specs.CountedPackets.{counts}
use Rattle.ts_demux.specs.PidTables.{StandsFor}
use Rattle.ts_demux.specs.TablesOn.{Completes}
use Rattle.ts_demux.specs.declared.pid_tables.PidTables.{PidTables}
use Rattle.ts_si.specs.SiTables.{sdt_held}
use Rattle.ts_table_rows.specs.TableValues.{TableHolding}
use Rattle.monitor_keys.specs.declared.span.Span.{Span}
use Rattle.monitor_keys.specs.Keys.{span_on}
use Rattle.monitor_keys.specs.Looks.{is_look}
use Rattle.monitor_tables.specs.TableIds.{sections_with}
use Rattle.plugin_notes.specs.PidPackets.{numbers_below}
use Rattle.plug_psi.specs.LastFound.{found_after}
use Rattle.plug_psi.proofs.FoundLemmas.{found-more, found-none, found-other}
use Rattle.monitor_rows.specs.declared.key_row.KeyRow.{KeyRow}
use Rattle.monitor_rows.specs.KeyRows.{RowRule, has_number}
use Rattle.monitor_rows.specs.RowStands.{AreOccurring, HasKeys, IsRow, SameNames}
use Rattle.monitor_rows.proofs.Rowing.{names_stay}
use Rattle.monitor_services.specs.CurrentSdt.{HasFedSdt, current_sdt, items_in, last_sdt}
use Rattle.monitor_services.specs.EventErrors.{event_rule, events_named, section_events, service_numbers}
use Rattle.monitor_services.specs.RowStands.{HasEventRow}
use Rattle.monitor_services.specs.declared.current_sdt.CurrentSdt.{CurrentSdt}
use Rattle.monitor_services.specs.declared.event_row.EventRow.{EventRow}
use Rattle.monitor_services.specs.declared.limits.TheConstants.{EVENT_NUMBERS}
use Rattle.monitor_services.proofs.Naming.{live-more}

-- before any packet
no-sdt : last_sdt [] ≡ None
unfolding last_sdt
no-sdt = found-none current_sdt 17

pub no-events : (n : ℕ) → has_number (events_named []) n ≡ false
no-events n = ap (λ (sdt : Option TableHolding). has_number (flat_map service_numbers (items_in sdt)) n) no-sdt

-- no packet was fed
pub sdt-new : (kept : CurrentSdt) → StandsFor kept.tables 17 [] → option_map sdt_held kept.sdt ≡ None → HasFedSdt kept []
unfolding last_sdt
sdt-new kept read none = record { read = read; last = none ∙ sym (found-none current_sdt 17) }

-- the tables that a packet completes
pub sdt-fed : (kept new : CurrentSdt) (fed : List (List ℕ)) (packet : List ℕ) (list tables : List (List (List ℕ))) → HasFedSdt kept fed
    → StandsFor new.tables 17 (fed ++ packet ∷ []) → Completes 17 fed packet tables → list ≡ tables
    → option_map sdt_held new.sdt ≡ found_after current_sdt (option_map sdt_held kept.sdt) list → HasFedSdt new (fed ++ packet ∷ [])
unfolding last_sdt
sdt-fed kept new fed packet list tables w read completes same last = record {
  read = read;
  last = found-more current_sdt _ _ list tables 17 fed packet same last w.last completes;
}

-- a packet on another PID does not count
apart : (packet : List ℕ) → (pid_of packet == 17) ≡ false → counts 17 packet ≡ false
apart packet other = ap (λ b. b && ((scrambling_of packet == 0) && (not (error_indicator_of packet) && is_some (payload_start_of packet)))) other

pub sdt-other : (kept : CurrentSdt) (fed : List (List ℕ)) (packet : List ℕ) → (pid_of packet == 17) ≡ false
    → ((tables : PidTables) (pid : ℕ) (taken : List (List ℕ)) (packet : List ℕ) → StandsFor tables pid taken → counts pid packet ≡ false → StandsFor tables pid (taken ++ packet ∷ []))
    → ((pid : ℕ) (taken : List (List ℕ)) (packet : List ℕ) → counts pid packet ≡ false → Completes pid taken packet [])
    → HasFedSdt kept fed → HasFedSdt kept (fed ++ packet ∷ [])
sdt-other kept fed packet other uncounted nothing w =
    sdt-fed kept kept fed packet [] [] w (uncounted kept.tables 17 fed packet w.read (apart packet other)) (nothing 17 fed packet (apart packet other)) refl refl

-- with a packet on another PID the same SDT is in force, and names the same keys
sdt-same : (fed : List (List ℕ)) (packet : List ℕ) → (pid_of packet == 17) ≡ false → last_sdt (fed ++ packet ∷ []) ≡ last_sdt fed
unfolding last_sdt
sdt-same fed packet other = found-other current_sdt 17 fed packet other

pub events-same : (fed : List (List ℕ)) (packet : List ℕ) → (pid_of packet == 17) ≡ false → (n : ℕ)
    → has_number (events_named (fed ++ packet ∷ [])) n ≡ has_number (events_named fed) n
events-same fed packet other n = ap (λ (sdt : Option TableHolding). has_number (flat_map service_numbers (items_in sdt)) n) (sdt-same fed packet other)

pub events-stay : (pcr_pid : Option ℕ) (keys : KeyRow) (history : List Cell) (packet : List ℕ) (labels : ℕ) → IsRow (event_rule pcr_pid) keys history
    → (pid_of packet == 17) ≡ false → HasKeys (event_rule pcr_pid) keys history (history ++ Live packet labels ∷ [])
events-stay pcr_pid keys history packet labels has other =
    names_stay (event_rule pcr_pid) keys history packet labels has
    (λ n less. events-same (live_packets history) packet other n)

-- those that an SDT names are those that the SDT in force names, where it is this one
pub events-are : (fed : List (List ℕ)) (numbers : List ℕ) (sdt : Option TableHolding)
    → numbers ≡ filter (has_number (flat_map service_numbers (items_in sdt))) (numbers_below EVENT_NUMBERS) → sdt ≡ last_sdt fed
    → numbers ≡ filter (has_number (events_named fed)) (numbers_below EVENT_NUMBERS)
events-are fed numbers sdt are is =
    are ∙ ap (λ (t : Option TableHolding). filter (has_number (flat_map service_numbers (items_in t))) (numbers_below EVENT_NUMBERS)) is

-- ---- a packet on another PID that has no PCR that is read, and with which no section comes

module _ (row : EventRow) (pcr_pid : Option ℕ) (history : List Cell) (packet : List ℕ) (span : Span) (sections : List (List ℕ))
    (has : HasEventRow pcr_pid row history) (span_is : span ≡ span_on pcr_pid history packet) (are : sections ≡ sections_with 18 (live_packets history) packet)
    (idle : (not (is_look span) && (not (pid_of packet == 17) && length sections == 0)) ≡ true) where
  looked : (not (is_look span) ≡ true) × ((not (pid_of packet == 17) && length sections == 0) ≡ true)
  looked = and_parts (not (is_look span)) (not (pid_of packet == 17) && length sections == 0) idle

  placed : (not (pid_of packet == 17) ≡ true) × ((length sections == 0) ≡ true)
  placed = and_parts (not (pid_of packet == 17)) (length sections == 0) looked.1

  elsewhere : (pid_of packet == 17) ≡ false
  elsewhere = not-true (pid_of packet == 17) placed.0

  no_sections : sections_with 18 (live_packets history) packet ≡ []
  no_sections = sym are ∙ nil_from_length sections (eqb-true (length sections) 0 placed.1)

  pub unread : is_look (span_on pcr_pid history packet) ≡ false
  unread = sym (ap is_look span_is) ∙ not-true (is_look span) looked.0

  -- the row is left as it is
  pub quiet-events : (labels : ℕ)
      → ((rule : RowRule) (row : KeyRow) (history : List Cell) (packet : List ℕ) (labels : ℕ) → IsRow rule row history
      → is_look (span_on rule.pcr_pid history packet) ≡ false → SameNames rule history packet → AreOccurring rule history packet []
      → IsRow rule row (history ++ Live packet labels ∷ []))
      → ((tables : PidTables) (pid : ℕ) (taken : List (List ℕ)) (packet : List ℕ) → StandsFor tables pid taken → counts pid packet ≡ false → StandsFor tables pid (taken ++ packet ∷ []))
      → ((pid : ℕ) (taken : List (List ℕ)) (packet : List ℕ) → counts pid packet ≡ false → Completes pid taken packet [])
      → HasEventRow pcr_pid row (history ++ Live packet labels ∷ [])
  quiet-events labels leaves uncounted nothing = record {
    keys_are = leaves (event_rule pcr_pid) row.keys history packet labels has.keys_are unread
        (λ n less. events-same (live_packets history) packet elsewhere n)
        (λ n. sym (ap (λ (came : List (List ℕ)). has_number (flat_map section_events came) n) no_sections));
    fed_are = subst (HasFedSdt row.sdt) (sym (live-more history packet labels)) (sdt-other row.sdt (live_packets history) packet elsewhere uncounted nothing has.fed_are);
  }
