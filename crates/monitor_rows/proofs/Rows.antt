-- Worked rows of keys that tables ask for, computed on the definitions. Packets of a few bytes are enough here.
use Rattle.std.proofs.Common.{◌≡◌, ℕ, ◌/◌, ◌%◌, List, [], ◌∷◌, ◌++◌, true, false, Bool, ◌==◌, if◌then◌else◌, None, Some, refl}
use Rattle.std.specs.List.{list_any}
use Rattle.ts_bit_rows.specs.BitRow.{bit_of, field}
use Rattle.ts_packet.specs.declared.cell.Cell.{Cell}
use Rattle.ts_packet.specs.Cells.{Live, Dropped, live_packets}
use Rattle.ts_packet.specs.Adaptation.{adaptation_length_of, discontinuity_of}
use Rattle.ts_packet.specs.Header.{pid_of}
use Rattle.ts_packet.specs.Pcr.{clock_bytes, clock_of, has_pcr_of, pcr_of}
use Rattle.plug_clock.specs.StreamClock.{clock_after, clock_met}
use Rattle.plugin_notes.specs.PidPackets.{numbers_below}
use Rattle.monitor_rows.specs.declared.row_gap.RowGap.{RowGap}
use Rattle.monitor_rows.specs.KeyRows.{RowRule, beginning, row_gaps}

-- a packet on PID 256 with this PCR, and one on another PID
abbrev clock : ℕ → List ℕ
clock value = 0x47 ∷ 0x01 ∷ 0x00 ∷ 0x30 ∷ 7 ∷ 0x10 ∷ clock_bytes (value / 300) (value % 300)

abbrev on : ℕ → List ℕ
on pid = 0x47 ∷ 0x00 ∷ pid ∷ 0x10 ∷ []

abbrev live : List ℕ → Cell
live packet = Live packet 0

-- a row of the PIDs below 4, of half a second: a packet on PID 9 names 1 and 3, one on PID 8 names 3 alone
abbrev named_by : List (List ℕ) → ℕ → Bool → Bool
named_by [] n was = was
named_by (packet ∷ packets) n was =
    named_by packets n (list_any (λ m. m == n) (if pid_of packet == 9 then 1 ∷ 3 ∷ [] else (if pid_of packet == 8 then 3 ∷ [] else (if was then n ∷ [] else []))))

abbrev row : RowRule
row = record {
  pcr_pid = None;
  limit = record { units = 13500000; tells_ends = true };
  bound = 4;
  names = λ fed n. named_by fed n false;
  occurs = λ fed packet n. pid_of packet == n;
}

abbrev gap : ℕ → ℕ → ℕ → RowGap
gap number at units = record { number = number; gap = record { at = at; units = units } }

-- both begin at position 1; neither has come up to the PCR at 3
abbrev tables : List Cell
tables = live (clock 0) ∷ live (on 9) ∷ Dropped ∷ []

told-of_both : row_gaps row tables (clock 27000000) ≡ gap 1 3 18000000 ∷ gap 3 3 18000000 ∷ []
unfolding numbers_below clock_after clock_met pcr_of field bit_of adaptation_length_of discontinuity_of has_pcr_of clock_of
told-of_both = refl

-- with the second table 1 ends, and 3 goes on
ends-and_goes_on : row_gaps row (tables ++ live (on 8) ∷ []) (clock 27000000) ≡ gap 3 4 20250000 ∷ []
unfolding numbers_below clock_after clock_met pcr_of field bit_of adaptation_length_of discontinuity_of has_pcr_of clock_of
ends-and_goes_on = refl

-- 1 occurs at 2
one-occurs : row_gaps row (live (clock 0) ∷ live (on 9) ∷ live (on 1) ∷ []) (clock 27000000) ≡ gap 3 3 18000000 ∷ []
unfolding numbers_below clock_after clock_met pcr_of field bit_of adaptation_length_of discontinuity_of has_pcr_of clock_of
one-occurs = refl

-- a packet without a PCR that is read has nothing to tell
no-look : row_gaps row tables (on 2) ≡ []
unfolding numbers_below clock_after clock_met pcr_of field bit_of adaptation_length_of discontinuity_of has_pcr_of clock_of
no-look = refl

-- a key that ends and is named again begins anew
begins-anew : beginning (λ cells. named_by (live_packets cells) 1 false) (live (on 9) ∷ live (on 8) ∷ live (on 2) ∷ live (on 9) ∷ live (on 2) ∷ []) ≡ Some 3
unfolding numbers_below field bit_of
begins-anew = refl
