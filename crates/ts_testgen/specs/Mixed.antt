-- The mix: the number from which a packet's payload and PID are taken. This project's own rule.
use Rattle.std.specs.Prelude.{ℕ, ◌+◌, ◌*◌, ◌/◌, ◌%◌, ◌^◌, List, map}
use Rattle.std.specs.List.{range_with_len}

-- the mix of packet i, by one step of a linear congruential generator
abbrev pub mixed : ℕ → ℕ → ℕ
mixed seed i = ((seed + i + 1) * 6364136223846793005 + 1442695040888963407) % 2 ^ 64

-- its byte k: the eight bytes, lowest first, repeated
abbrev pub mixed_byte : ℕ → ℕ → ℕ
mixed_byte r k = r / 2 ^ (8 * (k % 8)) % 256

-- the first bytes of that sequence
unfoldable pub mixed_bytes : ℕ → ℕ → List ℕ
mixed_bytes r count = map (mixed_byte r) (range_with_len 0 count)
