-- PMT_error: ETSI TR 101 290, 5.2.1, 1.5. Sections of the PMT of each service of the PAT in force come within half a second on the
-- PID of the service, and no packet there is scrambled. That a service's PID is that of its first entry in the PAT, and that
-- those packets of the PID count at whose positions the PAT in force names it, is this project's own rule.
use Rattle.std.specs.Prelude.{ℕ, List, [], ◌∷◌, ◌++◌, length, map, Bool, true, ◌==◌, ◌&&◌, option_to_list, Option, None, Some, if◌then◌else◌}
use Rattle.std.specs.List.{flat_map}
use Rattle.ts_packet.specs.declared.cell.Cell.{Cell}
use Rattle.ts_packet.specs.Cells.{live_packets}
use Rattle.ts_packet.specs.Header.{pid_of}
use Rattle.ts_section.specs.SectionFields.{head_of}
use Rattle.ts_section.specs.declared.long_head.LongHead.{LongHead}
use Rattle.ts_demux.specs.TakenWhere.{taken_on}
use Rattle.ts_table_rows.specs.TableValues.{TableHolding}
use Rattle.plug_psi.specs.InForce.{follows, pat_of, pid_for, services_in}
use Rattle.monitor_lines.specs.declared.detail.Detail.TheVariants.{ScrambledOn}
use Rattle.monitor_lines.specs.declared.indicator.Indicator.TheVariants.{Pmt}
use Rattle.monitor_lines.specs.declared.monitor_error.MonitorError.{MonitorError}
use Rattle.monitor_rows.specs.KeyRows.{RowRule, has_number, row_gaps}
use Rattle.monitor_tables.specs.TableIds.{is_scrambled, sections_with}
use Rattle.monitor_services.specs.GapErrors.{gap_errors, pmt_number}
use Rattle.monitor_services.specs.declared.limits.TheConstants.{PMT_LIMIT, PMT_NUMBERS}
use Rattle.monitor_services.specs.declared.row_kind.RowKind.TheVariants.{Pmts}

-- ---- which keys there are

-- that of a service of a PAT, with the PID of its first entry
abbrev pub numbers_of : Option TableHolding → ℕ × ℕ → List ℕ
numbers_of pat service = map (pmt_number service.0) (option_to_list (pid_for pat service.0))

-- those of all services of a PAT, if there is one
abbrev pub pat_numbers : Option TableHolding → List ℕ
pat_numbers pat = flat_map (numbers_of pat) (services_in pat)

-- those that the PAT in force names
abbrev pub pmts_named : List (List ℕ) → ℕ → Bool
pmts_named fed n = has_number (pat_numbers (pat_of fed)) n

-- ---- which keys occur

-- the sections that come with a packet on the PID of a PMT
abbrev pub pmt_sections : List (List ℕ) → List ℕ → List (List ℕ)
pmt_sections fed packet =
    if follows (pid_of packet) (fed ++ packet ∷ [])
    then sections_with (pid_of packet) (taken_on follows (pid_of packet) fed) packet
    else []

-- the key of a section on a PID, where it is one of a PMT, table_id 2
abbrev pub head_number : ℕ → Option LongHead → List ℕ
head_number pid None = []
head_number pid (Some head) = if head.table_id == 2 then pmt_number head.extension pid ∷ [] else []

abbrev pub section_number : ℕ → List ℕ → List ℕ
section_number pid section = head_number pid (head_of section)

-- those of the sections that come with a packet
abbrev pub pmts_come : List (List ℕ) → List ℕ → List ℕ
pmts_come fed packet = flat_map (section_number (pid_of packet)) (pmt_sections fed packet)

-- ---- the row

abbrev pub pmt_rule : Option ℕ → RowRule
pmt_rule pcr_pid = record {
  pcr_pid = pcr_pid;
  limit = record { units = PMT_LIMIT; tells_ends = true };
  bound = PMT_NUMBERS;
  names = pmts_named;
  occurs = λ fed packet n. has_number (pmts_come fed packet) n;
}

-- ---- errors

-- a scrambled packet on the PID of a PMT
abbrev pub is_scrambled_pmt : List (List ℕ) → List ℕ → Bool
is_scrambled_pmt fed packet = is_scrambled packet && follows (pid_of packet) (fed ++ packet ∷ [])

abbrev pub scrambled_error : ℕ → ℕ → MonitorError
scrambled_error at pid = record { known = at; at = at; indicator = Pmt; detail = ScrambledOn pid }

abbrev pub scrambled_errors : List Cell → List ℕ → List MonitorError
scrambled_errors history packet =
    if is_scrambled_pmt (live_packets history) packet then scrambled_error (length history) (pid_of packet) ∷ [] else []

-- those that are known with a packet after a history: first the gaps, by service and PID
abbrev pub pmt_errors : Option ℕ → List Cell → List ℕ → List MonitorError
pmt_errors pcr_pid history packet =
    gap_errors Pmts (length history) (row_gaps (pmt_rule pcr_pid) history packet) ++ scrambled_errors history packet
