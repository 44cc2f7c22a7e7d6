-- Gaps of keys that tables ask for, as errors: ETSI TR 101 290, 5.2.1 (1.5 PMT, 1.6 PID), 5.2.2 (2.3 PCR, 2.5 PTS) and 5.2.3
-- (3.6 EIT). The numbers of keys are this project's own rule.
use Rattle.std.specs.Prelude.{ℕ, ◌+◌, ◌*◌, ◌/◌, ◌%◌, List, map}
use Rattle.plug_clock.specs.StreamClock.{milliseconds_of}
use Rattle.monitor_lines.specs.declared.detail.Detail.TheVariants.{Gap}
use Rattle.monitor_lines.specs.declared.indicator.Indicator.{Indicator}
use Rattle.monitor_lines.specs.declared.indicator.Indicator.TheVariants as indicators
use Rattle.monitor_lines.specs.declared.missing.Missing.{Missing}
use Rattle.monitor_lines.specs.declared.missing.Missing.TheVariants as missing
use Rattle.monitor_lines.specs.declared.monitor_error.MonitorError.{MonitorError}
use Rattle.monitor_rows.specs.declared.row_gap.RowGap.{RowGap}
use Rattle.monitor_services.specs.declared.row_kind.RowKind.{RowKind}
use Rattle.monitor_services.specs.declared.row_kind.RowKind.TheVariants.{Pmts, Packets, Clocks, Stamps, Events}

-- ---- the numbers of keys; where a PID alone names a key, it is the number

-- that of the PMT of a service on a PID, which has 13 bits (ISO/IEC 13818-1, 2.4.4.3)
abbrev pub pmt_number : ℕ → ℕ → ℕ
pmt_number service pid = service * 8192 + pid

-- that of a section of the EIT present/following of a service, which has the section_numbers 0 and 1 (ETSI EN 300 468, 5.2.4)
abbrev pub event_number : ℕ → ℕ → ℕ
event_number service section = service * 2 + section

-- ---- errors

-- the indicator of a row
abbrev pub indicator_of : RowKind → Indicator
indicator_of Pmts = indicators.Pmt
indicator_of Packets = indicators.Pid
indicator_of Clocks = indicators.Pcr
indicator_of Stamps = indicators.Pts
indicator_of Events = indicators.Eit

-- what is missing where the key of a number is; a service and a PID have 16 bits of it
abbrev pub missing_of : RowKind → ℕ → Missing
missing_of Pmts n = missing.Pmt (n / 8192 % 65536)
missing_of Packets n = missing.Packet (n % 65536)
missing_of Clocks n = missing.Pcr (n % 65536)
missing_of Stamps n = missing.Pts (n % 65536)
missing_of Events n = missing.Eit (n / 2 % 65536) (n % 2)

-- the error of a gap that is known at a position
abbrev pub gap_error : RowKind → ℕ → RowGap → MonitorError
gap_error kind known gap = record {
  known = known;
  at = gap.gap.at;
  indicator = indicator_of kind;
  detail = Gap (missing_of kind gap.number) (milliseconds_of gap.gap.units);
}

-- those of the gaps of a row, in their order
abbrev pub gap_errors : RowKind → ℕ → List RowGap → List MonitorError
gap_errors kind known gaps = map (gap_error kind known) gaps
