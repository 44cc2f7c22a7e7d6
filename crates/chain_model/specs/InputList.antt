-- The packets of an input. ISO/IEC 13818-1, 2.4.3.2 (a packet is 188 bytes and begins with 0x47);
-- where the list ends is this project's own rule.
use Rattle.std.specs.Prelude.{ℕ, zero, suc, ◌*◌, ◌==◌, nat_le, ◌&&◌, List, [], ◌∷◌, length, take, drop, replicate, slice_index, if◌then◌else◌, Bool}
use Rattle.ts_packet.specs.declared.numbers.TheConstants.{PACKET_SIZE, SYNC_BYTE}
use Rattle.chain_model.specs.declared.input_end.InputEnd.{InputEnd}
use Rattle.chain_model.specs.declared.input_end.InputEnd.TheVariants.{End, Sync}
use Rattle.ts_packet.specs.Packet.{null_packet}

-- the packets that an input gives, and how it ends after them
pub record InputList : Type 0 where
  pub packets : List (List ℕ)
  pub ended : InputEnd

-- the bytes begin with a whole packet
abbrev pub is_packet_in_front : List ℕ → Bool
is_packet_in_front bytes = nat_le PACKET_SIZE (length bytes) && slice_index bytes 0 == SYNC_BYTE

-- the packets at the front of the bytes, one after another, at most so many
abbrev pub packets_within : ℕ → List ℕ → List (List ℕ)
packets_within zero bytes = []
packets_within (suc most) bytes =
    if is_packet_in_front bytes then take PACKET_SIZE bytes ∷ packets_within most (drop PACKET_SIZE bytes) else []

-- the packets at the front of the bytes: packet n is the bytes from 188 n on
abbrev pub packets_of : List ℕ → List (List ℕ)
packets_of bytes = packets_within (length bytes) bytes

-- how an input ends whose bytes after the first `n` packets hold no further packet
abbrev pub end_after : ℕ → List ℕ → InputEnd
end_after n [] = End 0
end_after n (first ∷ rest) =
    if first == SYNC_BYTE then End (length (first ∷ rest)) else Sync n

-- the input that bytes give
abbrev pub input_of_bytes : List ℕ → InputList
input_of_bytes bytes = record {
  packets = packets_of bytes;
  ended = end_after (length (packets_of bytes)) (drop (PACKET_SIZE * length (packets_of bytes)) bytes);
}

-- the input of so many null packets
abbrev pub input_of_nulls : ℕ → InputList
input_of_nulls n = record { packets = replicate n null_packet; ended = End 0 }
