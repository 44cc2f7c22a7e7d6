-- The null packet is a packet.
use Rattle.std.proofs.Common.{ℕ, zero, suc, ◌<◌, replicate, slice_index, refl, arith}
use Rattle.ts_packet.specs.Packet.{IsPacket, null_packet}

-- in `n` copies of a byte each number is a byte
copies_are_bytes : (n x : ℕ) → x < 256 → (k : ℕ) → slice_index (replicate n x) k < 256
copies_are_bytes zero x h k = omega arith
copies_are_bytes (suc n) x h zero = h
copies_are_bytes (suc n) x h (suc k) = copies_are_bytes n x h k

each_null_byte : (k : ℕ) → slice_index null_packet k < 256
each_null_byte zero = omega arith
each_null_byte (suc zero) = omega arith
each_null_byte (suc (suc zero)) = omega arith
each_null_byte (suc (suc (suc zero))) = omega arith
each_null_byte (suc (suc (suc (suc k)))) = copies_are_bytes 184 255 (omega arith) k

pub null_is_packet : IsPacket null_packet
null_is_packet = record { whole = refl; sync = refl; each_a_byte = λ k _. each_null_byte k }
