-- The bytes of a mix, one more, and the first of more of them.
use Rattle.std.proofs.Common.{◌≡◌, ℕ, ◌+◌, ◌≤◌, List, [], ◌∷◌, ◌++◌, length, take, ap, ◌∙◌, arith}
use Rattle.std.proofs.lemmas.List.FromFn.{length-map-range_with_len, take-map-range_with_len, map-range_with_len_more}
use Rattle.ts_testgen.specs.Mixed.{mixed_byte, mixed_bytes}

pub mixed_more : (r n : ℕ) → mixed_bytes r (n + 1) ≡ mixed_bytes r n ++ mixed_byte r n ∷ []
unfolding mixed_bytes
mixed_more r n = map-range_with_len_more (mixed_byte r) 0 n n (let e : 0 + n ≡ n = omega arith in e)

pub length-mixed : (r n : ℕ) → length (mixed_bytes r n) ≡ n
unfolding mixed_bytes
length-mixed r n = length-map-range_with_len (mixed_byte r) 0 n

pub take-mixed : (r n k : ℕ) → k ≤ n → take k (mixed_bytes r n) ≡ mixed_bytes r k
unfolding mixed_bytes
take-mixed r n k h = take-map-range_with_len (mixed_byte r) 0 n k h

pub first_length : (r : ℕ) (bytes : List ℕ) → bytes ≡ mixed_bytes r 184 → length (take 176 bytes) ≡ 176
first_length r bytes e = ap (λ b. length (take 176 b)) e ∙ ap length (take-mixed r 184 176 (omega arith)) ∙ length-mixed r 176
