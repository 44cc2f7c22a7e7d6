-- Rows that the definitions compute.
use Rattle.std.proofs.Common.{◌≡◌, ℕ, List, ◌∷◌, ◌++◌, replicate, refl}
use Rattle.packet_forms.specs.declared.forms.Form.TheVariants.{Ts, M2ts, Rs204}
use Rattle.packet_forms.specs.Stripped.{stripped_from, stripped, packet_bytes}

-- a packet, and so many bytes before or after it
packet : ℕ → List ℕ
packet n = 71 ∷ replicate 187 n

-- two packets with bytes after them, of which the last are missing
wanting_trail : stripped Rs204 (packet 1 ++ replicate 16 2 ++ packet 3) ≡ packet 1 ++ packet 3
unfolding stripped_from packet
wanting_trail = refl

-- two units and 14 bytes more, ten of which belong to a packet; of three more bytes, none does
ten_left : stripped M2ts (replicate 4 9 ++ packet 1 ++ replicate 4 9 ++ packet 2 ++ replicate 4 9 ++ (71 ∷ replicate 9 3)) ≡ packet 1 ++ packet 2 ++ (71 ∷ replicate 9 3)
unfolding stripped_from packet
ten_left = refl

none_left : stripped M2ts (replicate 4 9 ++ packet 1 ++ replicate 4 9 ++ packet 2 ++ replicate 3 9) ≡ packet 1 ++ packet 2
unfolding stripped_from packet
none_left = refl

-- a plain packet read as a unit with four bytes before: what is taken for its first byte is not one
plain_as_m2ts : stripped M2ts (71 ∷ 1 ∷ 2 ∷ 3 ∷ replicate 184 0) ≡ replicate 184 0
unfolding stripped_from
plain_as_m2ts = refl

counts : (packet_bytes Rs204 392 ≡ 376) × (packet_bytes M2ts 398 ≡ 386) × (packet_bytes M2ts 387 ≡ 376) × (packet_bytes Ts 1000 ≡ 1000)
counts = (refl, refl, refl, refl)
