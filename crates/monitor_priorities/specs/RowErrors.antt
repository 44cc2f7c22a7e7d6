-- The errors of each row of the table of `monitor`, with a packet after the cells met: ETSI TR 101 290, 5.2.1 to 5.2.3.
use Rattle.std.specs.Prelude.{ℕ, List, [], ◌∷◌, ◌++◌, length, map, Option, option_to_list, if◌then◌else◌}
use Rattle.ts_packet.specs.declared.cell.Cell.{Cell}
use Rattle.ts_packet.specs.Cells.{live_packets}
use Rattle.ts_packet.specs.Header.{error_indicator_of, pid_of}
use Rattle.plug_clock.specs.StreamClock.{milliseconds_of}
use Rattle.monitor_keys.specs.Keys.{KeyRule, gaps_on}
use Rattle.monitor_keys.specs.declared.gap.Gap.{Gap}
use Rattle.monitor_counters.specs.CounterErrors.{counter_error_on}
use Rattle.monitor_counters.specs.declared.counter_error.CounterError.{CounterError}
use Rattle.monitor_counters.specs.declared.counter_error.CounterError.TheVariants as counters
use Rattle.monitor_lines.specs.declared.detail.Detail.{Detail}
use Rattle.monitor_lines.specs.declared.detail.Detail.TheVariants as detail
use Rattle.monitor_lines.specs.declared.indicator.Indicator.{Indicator}
use Rattle.monitor_lines.specs.declared.indicator.Indicator.TheVariants as indicator
use Rattle.monitor_lines.specs.declared.missing.Missing.{Missing}
use Rattle.monitor_lines.specs.declared.monitor_error.MonitorError.{MonitorError}
use Rattle.monitor_orphans.specs.Orphans.{orphans_on}
use Rattle.monitor_pcrs.specs.PcrErrors.{pcr_error_on}
use Rattle.monitor_pcrs.specs.declared.pcr_error.PcrError.{PcrError}
use Rattle.monitor_pcrs.specs.declared.pcr_error.PcrError.TheVariants as steps
use Rattle.monitor_services.specs.EventErrors.{event_errors}
use Rattle.monitor_tables.specs.TableIds.{is_scrambled_pat, strangers_on}
use Rattle.monitor_priorities.specs.WrongTables.{wrong_with}
use Rattle.monitor_priorities.specs.declared.table_kind.TableKind.{TableKind}

-- ---- one error

-- an error of the packet at a position, which is known with it
abbrev pub here : Indicator → ℕ → Detail → MonitorError
here indicator at detail = record { known = at; at = at; indicator = indicator; detail = detail }

-- a gap, which is known with the packet at a position
abbrev pub gap_error : Indicator → Missing → ℕ → Gap → MonitorError
gap_error indicator missing at gap = record { known = at; at = gap.at; indicator = indicator; detail = detail.Gap missing (milliseconds_of gap.units) }

-- a section with a table_id that does not belong on its PID
abbrev pub table_error : Indicator → ℕ → ℕ → MonitorError
table_error indicator at table = here indicator at (detail.Table table)

-- one with a wrong CRC
abbrev pub crc_error : ℕ → ℕ → ℕ → MonitorError
crc_error at pid table = here indicator.Crc at (detail.TableOn pid table)

-- a PID to which no table refers
abbrev pub orphan_error : ℕ → ℕ → MonitorError
orphan_error at pid = here indicator.Unreferenced at (detail.OnPid pid)

-- what is wrong with a continuity counter
abbrev pub counter_error : ℕ → ℕ → CounterError → MonitorError
counter_error at pid (counters.Wrong counter wanted) = here indicator.Counter at (detail.Wrong pid counter wanted)
counter_error at pid counters.Repeated = here indicator.Counter at (detail.Repeated pid)

-- what is wrong with the step to a PCR: a step of 0 or that is too long is 2.3, one that is off is 2.4
abbrev pub pcr_error : ℕ → ℕ → PcrError → MonitorError
pcr_error at pid (steps.Step units) = here indicator.Pcr at (detail.Step pid units)
pcr_error at pid (steps.Accuracy off) = here indicator.Accuracy at (detail.Off pid off)

-- ---- those of a packet

-- 2.6, 3.6, 3.7: tables that may not come on a PID
abbrev pub stranger_errors : Indicator → ℕ → List Cell → List ℕ → List MonitorError
stranger_errors indicator pid history packet =
    map (table_error indicator (length history)) (strangers_on pid (live_packets history) packet)

-- 1.3, 2.6, 3.1, 3.5, 3.8: the gap of a table on a PID, then others that may not come there
abbrev pub table_errors : TableKind → KeyRule → List Cell → List ℕ → List MonitorError
table_errors kind rule history packet =
    map (gap_error kind.indicator kind.missing (length history)) (gaps_on rule history packet)
    ++ stranger_errors kind.indicator kind.pid history packet

-- 1.3: a scrambled packet on PID 0
abbrev pub scrambled_errors : List Cell → List ℕ → List MonitorError
scrambled_errors history packet =
    if is_scrambled_pat packet then here indicator.Pat (length history) detail.Scrambled ∷ [] else []

-- 1.4
abbrev pub counter_errors : List Cell → List ℕ → List MonitorError
counter_errors history packet =
    map (counter_error (length history) (pid_of packet)) (option_to_list (counter_error_on history packet))

-- 2.1
abbrev pub transport_errors : List Cell → List ℕ → List MonitorError
transport_errors history packet =
    if error_indicator_of packet then here indicator.Transport (length history) (detail.OnPid (pid_of packet)) ∷ [] else []

-- 2.2
abbrev pub crc_errors : List Cell → List ℕ → List MonitorError
crc_errors history packet =
    map (crc_error (length history) (pid_of packet)) (wrong_with (live_packets history) packet)

-- 2.3 and 2.4: the step between two PCRs, at the bit rate of the stream where one is given
abbrev pub step_errors : Option ℕ → List Cell → List ℕ → List MonitorError
step_errors bitrate history packet =
    map (pcr_error (length history) (pid_of packet)) (option_to_list (pcr_error_on bitrate history packet))

-- 3.4
abbrev pub orphan_errors : Option ℕ → List Cell → List ℕ → List MonitorError
orphan_errors pcr_pid history packet = map (orphan_error (length history)) (orphans_on pcr_pid history packet)

-- 3.6: the gaps of EITs, then tables that may not come on PID 18
abbrev pub eit_errors : Option ℕ → List Cell → List ℕ → List MonitorError
eit_errors pcr_pid history packet =
    event_errors pcr_pid history packet ++ stranger_errors indicator.Eit 18 history packet
