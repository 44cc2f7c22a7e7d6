-- What comes after the whole packets that were read. ISO/IEC 13818-1, 2.4.3.2 (a packet is 188 bytes and begins
-- with 0x47).
use Rattle.std.specs.Prelude.{◌≡◌, ◌≢◌, ℕ, ◌<◌, ◌≤◌, List, [], ◌∷◌, length, slice_index}
use Rattle.ts_packet.specs.declared.numbers.TheConstants.{PACKET_SIZE}

-- these bytes are a first part of a packet, or none at all
abbrev pub IsUnfinished : List ℕ → Type 0
IsUnfinished [] = Unit {0}
IsUnfinished (first ∷ rest) = (first ≡ 0x47) × (length (first ∷ rest) < PACKET_SIZE)

-- there is a first byte, and it is not the sync byte
abbrev pub IsOutOfSync : List ℕ → Type 0
IsOutOfSync [] = ⊥
IsOutOfSync (first ∷ rest) = first ≢ 0x47

-- where there is a first byte, it is the sync byte
abbrev pub IsInSync : List ℕ → Type 0
IsInSync [] = Unit {0}
IsInSync (first ∷ rest) = first ≡ 0x47

-- the bytes begin with a whole packet
pub record BeginsPacket (bytes : List ℕ) : Type 0 where
  pub whole : PACKET_SIZE ≤ length bytes
  pub sync : slice_index bytes 0 ≡ 0x47
