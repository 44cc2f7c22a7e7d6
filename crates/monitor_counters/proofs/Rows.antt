-- Worked rows of errors of continuity counters.
use Rattle.std.proofs.Common.{◌≡◌, ℕ, ◌+◌, List, [], ◌∷◌, None, Some, refl}
use Rattle.ts_bit_rows.specs.BitRow.{bit_of, field}
use Rattle.ts_packet.specs.Adaptation.{adaptation_length_of, discontinuity_of}
use Rattle.ts_packet.specs.Cells.{Live}
use Rattle.ts_packet.specs.Pcr.{has_pcr_of, pcr_of}
use Rattle.monitor_counters.specs.declared.counter_error.CounterError.TheVariants.{Wrong, Repeated}
use Rattle.monitor_counters.specs.CounterErrors.{counter_error_on}

-- a packet on PID 300 with a counter and a byte of payload, and one with a transport_error_indicator
abbrev sent : ℕ → ℕ → List ℕ
sent counter byte = 0x47 ∷ 0x01 ∷ 0x2C ∷ (0x10 + counter) ∷ byte ∷ []

abbrev spoiled : ℕ → List ℕ
spoiled counter = 0x47 ∷ 0x81 ∷ 0x2C ∷ (0x10 + counter) ∷ 0 ∷ []

-- a packet may come twice, and not three times
twice : counter_error_on (Live (sent 0 7) 0 ∷ Live (sent 1 7) 0 ∷ []) (sent 1 7) ≡ None
unfolding field bit_of pcr_of has_pcr_of adaptation_length_of discontinuity_of
twice = refl

three_times : counter_error_on (Live (sent 0 7) 0 ∷ Live (sent 1 7) 0 ∷ Live (sent 1 7) 0 ∷ []) (sent 1 7) ≡ Some Repeated
unfolding field bit_of pcr_of has_pcr_of adaptation_length_of discontinuity_of
three_times = refl

-- a duplicate has the bytes of its original
with_other_bytes : counter_error_on (Live (sent 1 7) 0 ∷ []) (sent 1 8) ≡ Some Repeated
unfolding field bit_of pcr_of has_pcr_of adaptation_length_of discontinuity_of
with_other_bytes = refl

-- a jump has its numbers, and there is none behind a packet with a transport_error_indicator
a_jump : counter_error_on (Live (sent 2 7) 0 ∷ []) (sent 4 7) ≡ Some (Wrong 4 3)
unfolding field bit_of pcr_of has_pcr_of adaptation_length_of discontinuity_of
a_jump = refl

behind_an_error : counter_error_on (Live (sent 2 7) 0 ∷ Live (spoiled 3) 0 ∷ []) (sent 9 7) ≡ None
unfolding field bit_of pcr_of has_pcr_of adaptation_length_of discontinuity_of
behind_an_error = refl
