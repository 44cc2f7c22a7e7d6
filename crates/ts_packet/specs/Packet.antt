-- ISO/IEC 13818-1, 2.4.3.2: the transport stream packet, 188 bytes that begin with the sync byte.
use Rattle.std.specs.Prelude.{◌≡◌, ℕ, ◌<◌, List, ◌∷◌, length, slice_index, replicate, EachIndex}
use Rattle.ts_packet.specs.declared.numbers.TheConstants.{PACKET_SIZE, PAYLOAD_SIZE, SYNC_BYTE}

-- a row of numbers is a packet: 188 of them, each a byte, and the first is the sync byte
pub record IsPacket (row : List ℕ) : Type 0 where
  pub whole : length row ≡ PACKET_SIZE
  pub sync : slice_index row 0 ≡ SYNC_BYTE
  pub each_a_byte : EachIndex row (λ k. slice_index row k < 256)

-- the null packet of this project: PID 8191, payload alone, counter 0, and 184 payload bytes 0xFF
abbrev pub null_packet : List ℕ
null_packet = SYNC_BYTE ∷ 0x1F ∷ 0xFF ∷ 0x10 ∷ replicate PAYLOAD_SIZE 0xFF
