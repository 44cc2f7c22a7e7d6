-- A table of Booleans by PID. ISO/IEC 13818-1, 2.4.3.2: a PID has 13 bits.
use Rattle.std.specs.Prelude.{◌≡◌, ◌<◌, ℕ, Bool, false, List}
use Rattle.std.specs.List.{slice_index_or}
use Rattle.ts_packet.specs.declared.numbers.TheConstants.{PID_COUNT}
use Rattle.plugin_options.specs.NumberSet.{has_number}

-- the table says of each PID whether it is in one of the ranges
abbrev pub IsTableOf : List (ℕ × ℕ) → List Bool → Type 0
IsTableOf ranges table = (pid : ℕ) → pid < PID_COUNT → slice_index_or table pid false ≡ has_number ranges pid
