-- EIT_error: ETSI TR 101 290, 5.2.3, 3.6. Both sections of the EIT present/following of the actual stream come within two seconds,
-- for each service of which the SDT in force says that it has them, by its EIT_present_following_flag (ETSI EN 300 468, 5.2.3).
use Rattle.std.specs.Prelude.{ℕ, List, [], ◌∷◌, length, true, ◌==◌, ◌&&◌, nat_le, Option, None, Some, if◌then◌else◌}
use Rattle.std.specs.List.{flat_map}
use Rattle.ts_packet.specs.declared.cell.Cell.{Cell}
use Rattle.ts_section.specs.SectionFields.{head_of}
use Rattle.ts_section.specs.declared.long_head.LongHead.{LongHead}
use Rattle.ts_table_rows.specs.TableValues.{ItemHolding}
use Rattle.plug_psi.specs.NumbersHeld.{number_at}
use Rattle.monitor_services.specs.CurrentSdt.{items_in, last_sdt}
use Rattle.monitor_lines.specs.declared.monitor_error.MonitorError.{MonitorError}
use Rattle.monitor_rows.specs.KeyRows.{RowRule, has_number, row_gaps}
use Rattle.monitor_tables.specs.TableIds.{sections_with}
use Rattle.monitor_services.specs.GapErrors.{event_number, gap_errors}
use Rattle.monitor_services.specs.declared.limits.TheConstants.{EVENT_LIMIT, EVENT_NUMBERS}
use Rattle.monitor_services.specs.declared.row_kind.RowKind.TheVariants.{Events}

-- ---- which keys there are

-- those of a service of an SDT, whose EIT_present_following_flag comes after its number and the flag of schedules
abbrev pub service_numbers : ItemHolding → List ℕ
service_numbers service =
    if number_at service.values 2 == 1
    then event_number (number_at service.values 0) 0 ∷ event_number (number_at service.values 0) 1 ∷ []
    else []

-- those that the SDT in force names: the last complete current one of the actual stream, on PID 17
abbrev pub events_named : List (List ℕ) → List ℕ
events_named fed = flat_map service_numbers (items_in (last_sdt fed))

-- ---- which keys occur

-- the key of a section on PID 18, where it is section 0 or 1 of an EIT present/following of the actual stream, table_id 78
abbrev pub head_events : Option LongHead → List ℕ
head_events None = []
head_events (Some head) =
    if head.table_id == 78 && nat_le head.number 1 then event_number head.extension head.number ∷ [] else []

abbrev pub section_events : List ℕ → List ℕ
section_events section = head_events (head_of section)

-- those of the sections that come with a packet
abbrev pub events_come : List (List ℕ) → List ℕ → List ℕ
events_come fed packet = flat_map section_events (sections_with 18 fed packet)

-- ---- the row

abbrev pub event_rule : Option ℕ → RowRule
event_rule pcr_pid = record {
  pcr_pid = pcr_pid;
  limit = record { units = EVENT_LIMIT; tells_ends = true };
  bound = EVENT_NUMBERS;
  names = λ fed n. has_number (events_named fed) n;
  occurs = λ fed packet n. has_number (events_come fed packet) n;
}

-- the errors that are known with a packet after a history, by service and section
abbrev pub event_errors : Option ℕ → List Cell → List ℕ → List MonitorError
event_errors pcr_pid history packet = gap_errors Events (length history) (row_gaps (event_rule pcr_pid) history packet)
