-- Rows of bytes read as rows of bits.
-- ISO/IEC 13818-1, 2.2.6: bit strings and unsigned integers have their most significant bit first.
use Rattle.std.specs.Prelude.{◌≡◌, ℕ, ◌+◌, ◌-◌, ◌*◌, ◌/◌, ◌%◌, ◌^◌, ◌<◌, ◌≤◌, List, length, slice_index, suc, zero}

-- the bit at place i of a row of bytes, counted from the highest bit of the first byte; 0 past the end
unfoldable pub bit_of : List ℕ → ℕ → ℕ
bit_of row i = slice_index row (i / 8) / 2 ^ (7 - i % 8) % 2

-- the number that the `count` bits from place `at` on give, highest first
unfoldable pub field : List ℕ → ℕ → ℕ → ℕ
field row at zero = 0
field row at (suc count) = 2 * field row at count + bit_of row (at + count)

-- the `count` bits of a row of bytes from place `at` on now give `value`, and nothing else has changed
pub record SetsField (old new : List ℕ) (at count value : ℕ) : Type 0 where
  pub same_length : length new ≡ length old
  pub reads_back : field new at count ≡ value
  pub before : (i : ℕ) → i < at → bit_of new i ≡ bit_of old i
  pub after : (i : ℕ) → at + count ≤ i → bit_of new i ≡ bit_of old i
