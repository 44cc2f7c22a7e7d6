-- A repeated pattern: its first bytes, and how many there are.
use Rattle.std.proofs.Common.{◌≡◌, ℕ, zero, suc, ◌+◌, ◌-◌, ◌<◌, ◌≤◌, ◌%◌, List, [], ◌∷◌, ◌++◌, length, take, get_or, ap, ◌∙◌, refl, add-zero, add-one, arith, length-append}
use Rattle.std.proofs.lemmas.List.{take-append-le, take_all}
use Rattle.std.proofs.lemmas.Bool.Decides.{nat_tests}
use Rattle.ts_packet.specs.Payload.{with_piece}
use Rattle.plug_pass.specs.PatternRule.{repeated, patterned_from}

-- one byte more of the pattern
pub repeated_more : (pattern : List ℕ) (n : ℕ) → repeated pattern (n + 1) ≡ repeated pattern n ++ get_or pattern (n % length pattern) 0 ∷ []
unfolding repeated
repeated_more pattern n = ap (repeated pattern) (add-one n)

-- so many bytes
pub length-repeated : (pattern : List ℕ) (n : ℕ) → length (repeated pattern n) ≡ n
unfolding repeated
length-repeated pattern zero = refl
length-repeated pattern (suc n) =
    omega (arith, length-append (repeated pattern n) (get_or pattern (n % length pattern) 0 ∷ []), length-repeated pattern n)

-- the first bytes of more of the pattern
pub take-repeated_more : (pattern : List ℕ) (m k : ℕ) → take m (repeated pattern (m + k)) ≡ repeated pattern m
unfolding repeated
take-repeated_more pattern m zero =
    ap (λ (n : ℕ). take m (repeated pattern n)) (add-zero m) ∙ take_all m (repeated pattern m) (omega (arith, length-repeated pattern m))
take-repeated_more pattern m (suc k) =
    let e : m + suc k ≡ suc (m + k) = omega arith in
    ap (λ (n : ℕ). take m (repeated pattern n)) e
    ∙ (take-append-le m (repeated pattern (m + k)) (get_or pattern ((m + k) % length pattern) 0 ∷ []) (omega (arith, length-repeated pattern (m + k)))
    ∙ take-repeated_more pattern m k)

-- the first bytes of the repeated pattern
pub take-repeated : (pattern : List ℕ) (m n : ℕ) → m ≤ n → take m (repeated pattern n) ≡ repeated pattern m
take-repeated pattern m n le =
    let e : n ≡ m + (n - m) = omega arith in
    ap (λ (k : ℕ). take m (repeated pattern k)) e ∙ take-repeated_more pattern m (n - m)

-- what is written where the place is in the packet
pub patterned-in : (pattern : List ℕ) (at : ℕ) (packet : List ℕ) → at < 188
    → patterned_from pattern at packet ≡ with_piece packet at (repeated pattern (188 - at))
patterned-in pattern at packet within = grind (arith, nat_tests)
