-- The errors of a packet, in the order of the indicators' numbers: ETSI TR 101 290, 5.2.1 to 5.2.3, those that packets tell of.
-- 1.1 and 1.2, the loss of sync, are not seen in packets; 3.2, 3.3, 3.9 and 3.10 ask for rates and buffers.
use Rattle.std.specs.Prelude.{ℕ, List, [], ◌∷◌, Option}
use Rattle.std.specs.List.{flat_map}
use Rattle.ts_packet.specs.declared.cell.Cell.{Cell}
use Rattle.monitor_lines.specs.declared.indicator.Indicator.TheVariants as indicator
use Rattle.monitor_lines.specs.declared.missing.Missing.TheVariants as missing
use Rattle.monitor_lines.specs.declared.monitor_error.MonitorError.{MonitorError}
use Rattle.monitor_services.specs.PidErrors.{pid_errors}
use Rattle.monitor_services.specs.PmtErrors.{pmt_errors}
use Rattle.monitor_services.specs.StampErrors.{stamp_errors}
use Rattle.monitor_services.specs.declared.limits.TheConstants.{CLOCK_LIMIT}
use Rattle.monitor_services.specs.declared.pid_kind.PidKind.TheVariants.{Component, Clock}
use Rattle.monitor_tables.specs.TableKeys.{cat_key, nit_key, pat_key, sdt_key, tdt_key}
use Rattle.monitor_priorities.specs.RowErrors.{counter_errors, crc_errors, eit_errors, orphan_errors, scrambled_errors, step_errors, stranger_errors, table_errors, transport_errors}
use Rattle.monitor_priorities.specs.declared.table_kind.TableKind.{TableKind}

-- ---- tables that come on PIDs of their own

abbrev pub pat_kind : TableKind
pat_kind = record { pid = 0; table_id = 0; indicator = indicator.Pat; missing = missing.Pat }

abbrev pub cat_kind : TableKind
cat_kind = record { pid = 1; table_id = 1; indicator = indicator.Cat; missing = missing.Cat }

abbrev pub nit_kind : TableKind
nit_kind = record { pid = 16; table_id = 64; indicator = indicator.Nit; missing = missing.Nit }

abbrev pub sdt_kind : TableKind
sdt_kind = record { pid = 17; table_id = 66; indicator = indicator.Sdt; missing = missing.Sdt }

abbrev pub tdt_kind : TableKind
tdt_kind = record { pid = 20; table_id = 112; indicator = indicator.Tdt; missing = missing.Tdt }

-- ---- the rows

-- the rows of each priority: what each tells with a packet after the cells met. A PID of a component may be without a packet for
-- so many units of the 27 MHz clock; the rate is that of the stream, and the PID that of the PCRs that tell the time, where they
-- are given
abbrev pub first_rows : ℕ → Option ℕ → List (List Cell → List ℕ → List MonitorError)
first_rows gap pcr_pid = table_errors pat_kind (pat_key pcr_pid)
    ∷ scrambled_errors
    ∷ counter_errors
    ∷ pmt_errors pcr_pid
    ∷ pid_errors Component gap pcr_pid
    ∷ []

abbrev pub second_rows : Option ℕ → Option ℕ → List (List Cell → List ℕ → List MonitorError)
second_rows bitrate pcr_pid = transport_errors
    ∷ crc_errors
    ∷ pid_errors Clock CLOCK_LIMIT pcr_pid
    ∷ step_errors bitrate
    ∷ stamp_errors pcr_pid
    ∷ table_errors cat_kind (cat_key pcr_pid)
    ∷ []

abbrev pub third_rows : Option ℕ → List (List Cell → List ℕ → List MonitorError)
third_rows pcr_pid = table_errors nit_kind (nit_key pcr_pid)
    ∷ orphan_errors pcr_pid
    ∷ table_errors sdt_kind (sdt_key pcr_pid)
    ∷ eit_errors pcr_pid
    ∷ stranger_errors indicator.Rst 19
    ∷ table_errors tdt_kind (tdt_key pcr_pid)
    ∷ []

-- ---- what they tell

abbrev pub told_by : List (List Cell → List ℕ → List MonitorError) → List Cell → List ℕ → List MonitorError
told_by rows history packet = flat_map (λ row. row history packet) rows

abbrev pub first_errors : ℕ → Option ℕ → List Cell → List ℕ → List MonitorError
first_errors gap pcr_pid history packet = told_by (first_rows gap pcr_pid) history packet

abbrev pub second_errors : Option ℕ → Option ℕ → List Cell → List ℕ → List MonitorError
second_errors bitrate pcr_pid history packet = told_by (second_rows bitrate pcr_pid) history packet

abbrev pub third_errors : Option ℕ → List Cell → List ℕ → List MonitorError
third_errors pcr_pid history packet = told_by (third_rows pcr_pid) history packet
