-- ISO/IEC 13818-1, 2.4.3.5: the program clock reference, in units of the 27 MHz system clock.
use Rattle.std.specs.Prelude.{◌≡◌, ℕ, ◌+◌, ◌*◌, ◌/◌, ◌%◌, ◌^◌, ◌<◌, ◌≤◌, List, [], ◌∷◌, length, Bool, ◌==◌, ◌&&◌, Option, Some, None, if◌then◌else◌}
use Rattle.ts_bit_rows.specs.BitRow.{bit_of, field}
use Rattle.ts_packet.specs.Adaptation.{adaptation_length_of, reaches}
use Rattle.ts_packet.specs.Payload.{with_piece}

-- program_clock_reference_base times 300 plus program_clock_reference_extension
unfoldable pub clock_of : List ℕ → ℕ
clock_of row = field row 48 33 * 300 + field row 87 9

-- the packet has a PCR: a valid adaptation field that has room for one, and its PCR_flag
unfoldable pub has_pcr_of : List ℕ → Bool
has_pcr_of row = reaches (adaptation_length_of row) 7 && (field row 43 1 == 1)

-- the packet's PCR, if it has one
unfoldable pub pcr_of : List ℕ → Option ℕ
pcr_of row = if has_pcr_of row then Some (clock_of row) else None

-- the PCR field now reads as this value, its six reserved bits are ones, and nothing else has changed
pub record SetsPcr (old new : List ℕ) (value : ℕ) : Type 0 where
  pub same_length : length new ≡ length old
  pub base : field new 48 33 ≡ value / 300
  pub reserved : field new 81 6 ≡ 63
  pub extension : field new 87 9 ≡ value % 300
  pub before : (i : ℕ) → i < 48 → bit_of new i ≡ bit_of old i
  pub after : (i : ℕ) → 96 ≤ i → bit_of new i ≡ bit_of old i

-- the six bytes of a PCR field: base 33 bits, reserved 6, extension 9
abbrev pub clock_bytes : ℕ → ℕ → List ℕ
clock_bytes base extension =
    (base / 2 ^ 25) ∷ (base / 2 ^ 17 % 256) ∷ (base / 2 ^ 9 % 256) ∷ (base / 2 % 256)
    ∷ (base % 2 * 128 + 126 + extension / 256) ∷ (extension % 256) ∷ []

-- the row with this PCR at the PCR's place
unfoldable pub with_pcr : List ℕ → ℕ → List ℕ
with_pcr row value = with_piece row 6 (clock_bytes (value / 300) (value % 300))
