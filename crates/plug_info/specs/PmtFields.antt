-- Fields of a PMT. ISO/IEC 13818-1, 2.4.4.8.
use Rattle.std.specs.Prelude.{ℕ, Option, None, Some}
use Rattle.ts_table_rows.specs.BodyReading.{first_number}
use Rattle.ts_table_rows.specs.TableValues.{TableHolding}

-- the PCR_PID of a PMT
abbrev pub pcr_pid_in : Option TableHolding → Option ℕ
pcr_pid_in None = None
pcr_pid_in (Some pmt) = first_number pmt.body.values
