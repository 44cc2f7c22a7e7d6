-- Worked rows: the definitions computed on sections by their sizes, and on cycles.
use Rattle.std.proofs.Common.{◌≡◌, ℕ, true, false, zero, suc, List, [], ◌∷◌, ◌++◌, map, replicate, Some, None, refl}
use Rattle.ts_packetize.specs.Packing.{Load, missing, not_begun, next_step, pack, packed}
use Rattle.ts_packetize.specs.Packets.{packets_of}
use Rattle.ts_packet.specs.Header.{with_counter}
use Rattle.ts_packetize.specs.Cycle.{cycle_packets}
use Rattle.ts_packetize.specs.Ordinals.{Cycles, start_of, packet_at, written_before, counted_at}

-- a payload with unit start, and one without
abbrev begins : List ℕ → Load
begins bytes = record { unit_start = true; payload = bytes }

abbrev goes_on : List ℕ → Load
goes_on bytes = record { unit_start = false; payload = bytes }

-- the second of two sections continues in a packet of its own
two_of_100 :
    packed (replicate 100 1 ∷ replicate 100 2 ∷ [])
    ≡ begins (0 ∷ replicate 100 1 ++ replicate 83 2) ∷ goes_on (replicate 17 2 ++ replicate 167 0xFF) ∷ []
unfolding pack next_step missing not_begun
two_of_100 = refl

-- and a third begins after it
and_one_of_20 :
    packed (replicate 100 1 ∷ replicate 100 2 ∷ replicate 20 3 ∷ [])
    ≡ begins (0 ∷ replicate 100 1 ++ replicate 83 2) ∷ begins (17 ∷ replicate 17 2 ++ replicate 20 3 ++ replicate 146 0xFF) ∷ []
unfolding pack next_step missing not_begun
and_one_of_20 = refl

-- 183 bytes that are left leave no room for a byte after a pointer, and continue alone
one_fill_byte :
    packed (replicate 366 1 ∷ replicate 50 2 ∷ [])
    ≡ begins (0 ∷ replicate 183 1) ∷ goes_on (replicate 183 1 ++ 0xFF ∷ []) ∷ begins (0 ∷ replicate 50 2 ++ replicate 133 0xFF) ∷ []
unfolding pack next_step missing not_begun
one_fill_byte = refl

-- 182 leave room for one
one_byte_begun :
    packed (replicate 365 1 ∷ replicate 50 2 ∷ [])
    ≡ begins (0 ∷ replicate 183 1) ∷ begins (182 ∷ replicate 182 1 ++ 2 ∷ []) ∷ goes_on (replicate 49 2 ++ replicate 135 0xFF) ∷ []
unfolding pack next_step missing not_begun
one_byte_begun = refl

-- a section that ends with its packet
ends_with_its_packet :
    packed (replicate 183 1 ∷ replicate 10 2 ∷ [])
    ≡ begins (0 ∷ replicate 183 1) ∷ begins (0 ∷ replicate 10 2 ++ replicate 173 0xFF) ∷ []
unfolding pack next_step missing not_begun
ends_with_its_packet = refl

-- two packets without a stuffing byte
no_fill_byte : packed (replicate 367 1 ∷ []) ≡ begins (0 ∷ replicate 183 1) ∷ goes_on (replicate 184 1) ∷ []
unfolding pack next_step missing not_begun
no_fill_byte = refl

-- the short section 70 30 01 AA on PID 32: unit start, pointer 0, and 179 stuffing bytes
one_packet :
    packets_of 32 ((0x70 ∷ 0x30 ∷ 0x01 ∷ 0xAA ∷ []) ∷ [])
    ≡ (0x47 ∷ 0x40 ∷ 0x20 ∷ 0x10 ∷ 0x00 ∷ 0x70 ∷ 0x30 ∷ 0x01 ∷ 0xAA ∷ replicate 179 0xFF) ∷ []
unfolding packets_of pack next_step missing not_begun
one_packet = refl

-- rows that stand for packets
abbrev a : List ℕ
a = 0x47 ∷ 0x00 ∷ 0x20 ∷ 0x10 ∷ 0xAA ∷ []

abbrev b : List ℕ
b = 0x47 ∷ 0x00 ∷ 0x20 ∷ 0x10 ∷ 0xBB ∷ []

-- with no contents at first, then the cycle a a, and b known from its second packet on
cycle_goes_on :
    cycle_packets [] 0 ([] ∷ (a ∷ a ∷ []) ∷ (b ∷ []) ∷ (b ∷ []) ∷ [])
    ≡ None ∷ Some (with_counter a 0) ∷ Some (with_counter a 1) ∷ Some (with_counter b 2) ∷ []
unfolding cycle_packets
cycle_goes_on = refl

-- the same by ordinals
abbrev known : Cycles
known zero = []
known (suc zero) = a ∷ a ∷ []
known (suc (suc n)) = b ∷ []

ordinals_go_on :
    map (counted_at known) (0 ∷ 1 ∷ 2 ∷ 3 ∷ [])
    ≡ None ∷ Some (with_counter a 0) ∷ Some (with_counter a 1) ∷ Some (with_counter b 2) ∷ []
unfolding start_of packet_at written_before
ordinals_go_on = refl
