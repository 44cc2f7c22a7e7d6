-- Times of the standard, computed.
-- ETSI EN 300 468, 5.2.4: a duration of 01:45:30, and a start on 1993-10-13 at 12:45:00, which is day 0xC079.
use Rattle.std.proofs.Common.{◌≡◌, ◌<◌, refl}
use Rattle.std.specs.Prelude.{Some, None}
use Rattle.ts_eit.specs.EventTimes.{pair_bits, start_bits, time_bits}

duration_row : time_bits 6330 ≡ 0x014530
unfolding pair_bits time_bits
duration_row = refl

start_row : (inside : 45900 < 86400) → start_bits (Some (record { day = 0xC079; second = 45900; in_range = inside })) ≡ 0xC079124500
unfolding pair_bits start_bits time_bits
start_row inside = refl

no_start_row : start_bits None ≡ 0xFFFFFFFFFF
unfolding start_bits
no_start_row = refl
