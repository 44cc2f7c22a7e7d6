-- Lemmas on numbers that are rounded.
use Rattle.std.proofs.Common.{◌≡◌, ℕ, ◌+◌, ◌*◌, ◌/◌, ap, ap₂, sym, ◌∙◌, arith}
use Rattle.std.proofs.Math.Nat.{div-div-eq-div-mul}
use Rattle.plug_info_texts.specs.Rounding.{rounded}

-- half of the divisor is added, and the quotient rounded down
half_added : (a b : ℕ) → (a + b / 2) / b ≡ rounded a b
unfolding rounded
half_added a b =
    let half : (2 * a + b) / 2 ≡ a + b / 2 = omega arith in
    ap (λ (n : ℕ). n / b) (sym half) ∙ div-div-eq-div-mul (2 * a + b) 2 b

-- the same of numbers that were made wider
pub rounded_is : (a a_new b b_new c c_new : ℕ) → a ≡ a_new → b ≡ b_new → c ≡ c_new → (a * b + c / 2) / c ≡ rounded (a_new * b_new) c_new
rounded_is a a_new b b_new c c_new same_a same_b same_c =
    half_added (a * b) c ∙ ap₂ rounded (ap₂ (λ (x y : ℕ). x * y) same_a same_b) same_c
