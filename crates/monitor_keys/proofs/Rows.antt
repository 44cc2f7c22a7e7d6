-- Worked rows of keys, computed on the definitions. Packets of a few bytes are enough here.
use Rattle.std.proofs.Common.{◌≡◌, ℕ, ◌/◌, ◌%◌, List, [], ◌∷◌, true, false, ◌==◌, None, refl}
use Rattle.ts_bit_rows.specs.BitRow.{bit_of, field}
use Rattle.ts_packet.specs.declared.cell.Cell.{Cell}
use Rattle.ts_packet.specs.Cells.{Live, Dropped}
use Rattle.ts_packet.specs.Adaptation.{adaptation_length_of, discontinuity_of}
use Rattle.ts_packet.specs.Header.{pid_of}
use Rattle.ts_packet.specs.Pcr.{clock_bytes, clock_of, has_pcr_of, pcr_of}
use Rattle.plug_clock.specs.StreamClock.{clock_after, clock_met}
use Rattle.monitor_keys.specs.declared.gap.Gap.{Gap}
use Rattle.monitor_keys.specs.Keys.{KeyRule, gaps_in}

-- a packet on PID 256 with this PCR, one on PID 0, and one on PID 300
abbrev clock : ℕ → Cell
clock value = Live (0x47 ∷ 0x01 ∷ 0x00 ∷ 0x30 ∷ 7 ∷ 0x10 ∷ clock_bytes (value / 300) (value % 300)) 0

abbrev pat : Cell
pat = Live (0x47 ∷ 0x00 ∷ 0x00 ∷ 0x10 ∷ []) 0

abbrev bare : Cell
bare = Live (0x47 ∷ 0x01 ∷ 0x2C ∷ 0x10 ∷ []) 0

-- a key that occurs with each packet on a PID, from a position on, of so many units
abbrev key : ℕ → ℕ → ℕ → KeyRule
key pid from units = record {
  pcr_pid = None;
  from = from;
  limit = record { units = units; tells_ends = true };
  occurs = λ history packet. pid_of packet == pid;
  is_due = λ history packet. true;
}

-- the same, of which the ends are not told, and one that is never due
abbrev starts_alone : KeyRule → KeyRule
starts_alone rule = record rule { limit = record { units = rule.limit.units; tells_ends = false } }

abbrev never_due : KeyRule → KeyRule
never_due rule = record rule { is_due = λ history packet. false }

abbrev gap : ℕ → ℕ → Gap
gap at units = record { at = at; units = units }

-- time begins at the first PCR, with 0: at position 3 the gap is 500 ms, not above; it passes the limit at 5, and ends at 6
abbrev late_pat : List Cell
late_pat = pat ∷ clock 0 ∷ bare ∷ clock 13500000 ∷ bare ∷ clock 14000000 ∷ pat ∷ bare ∷ clock 15000000 ∷ []

passes-and-ends : gaps_in (key 0 0 13500000) late_pat ≡ gap 5 14000000 ∷ gap 6 14333333 ∷ []
unfolding clock_after clock_met pcr_of field bit_of adaptation_length_of discontinuity_of has_pcr_of clock_of
passes-and-ends = refl

passes-alone : gaps_in (starts_alone (key 0 0 13500000)) late_pat ≡ gap 5 14000000 ∷ []
unfolding clock_after clock_met pcr_of field bit_of adaptation_length_of discontinuity_of has_pcr_of clock_of
passes-alone = refl

ends-alone : gaps_in (never_due (key 0 0 13500000)) late_pat ≡ gap 6 14333333 ∷ []
unfolding clock_after clock_met pcr_of field bit_of adaptation_length_of discontinuity_of has_pcr_of clock_of
ends-alone = refl

-- occurrences at 166, 666 and 1,333 ms; a key that begins at position 1 and never occurs is told once
abbrev three_pats : List Cell
three_pats = clock 0 ∷ pat ∷ bare ∷ clock 13500000 ∷ pat ∷ bare ∷ clock 27000000 ∷ bare ∷ pat ∷ clock 40500000 ∷ []

between-looks : gaps_in (key 0 0 13500000) three_pats ≡ gap 8 18000000 ∷ []
unfolding clock_after clock_met pcr_of field bit_of adaptation_length_of discontinuity_of has_pcr_of clock_of
between-looks = refl

from-a_beginning : gaps_in (key 17 1 13500000) three_pats ≡ gap 6 22500000 ∷ []
unfolding clock_after clock_met pcr_of field bit_of adaptation_length_of discontinuity_of has_pcr_of clock_of
from-a_beginning = refl

-- a joint of two positions, at 27,000,000 units each: there nothing is told, and the key is waited for anew
abbrev over_a_joint : List Cell
over_a_joint = clock 0 ∷ clock 27000000 ∷ bare ∷ clock 5 ∷ clock 13500005 ∷ Dropped ∷ clock 13500006 ∷ []

anew-behind_a_guess : gaps_in (key 0 0 13500000) over_a_joint ≡ gap 1 27000000 ∷ gap 6 13500001 ∷ []
unfolding clock_after clock_met pcr_of field bit_of adaptation_length_of discontinuity_of has_pcr_of clock_of
anew-behind_a_guess = refl

-- without PCRs there is no time
no-time : gaps_in (key 0 0 0) (pat ∷ bare ∷ pat ∷ []) ≡ []
unfolding clock_after clock_met pcr_of field bit_of adaptation_length_of discontinuity_of has_pcr_of clock_of
no-time = refl
