-- Lemmas on products and quotients of the clock's units.
use Rattle.std.proofs.Common.{◌≡◌, ℕ, ◌+◌, ◌*◌, ◌/◌, ◌%◌, ◌<◌, List, Bool, true, false, Some, None, if◌then◌else◌, refl, sym, ap, ◌∙◌, inl, inr, arith}
use Rattle.std.proofs.lemmas.Bool.{cases_Bool, cond-true, cond-false}
use Rattle.std.proofs.lemmas.Nat.{div-add-mod'}
use Rattle.ts_packet.specs.Header.{error_indicator_of}
use Rattle.ts_packet.specs.Pcr.{clock_of, has_pcr_of, pcr_of}
use Rattle.plug_clock.specs.StreamClock.{time_in}
use native.Mathlib.Nat.{add-mul-div_right}

sum-is : (whole divisor part units more : ℕ) → (whole * divisor + part) * units + more ≡ (part * units + more) + whole * units * divisor
sum-is whole divisor part units more = omega arith

-- whole times of the divisor may be taken first
pub split-units : (parts divisor units more : ℕ) → 0 < divisor
    → parts / divisor * units + (parts % divisor * units + more) / divisor ≡ (parts * units + more) / divisor
split-units parts divisor units more some =
    let whole = parts / divisor in
    let part = parts % divisor in
    let e : parts * units + more ≡ (part * units + more) + whole * units * divisor =
    ap (λ n. n * units + more) (sym (div-add-mod' parts divisor)) ∙ sum-is whole divisor part units more in
    let d : (parts * units + more) / divisor ≡ (part * units + more) / divisor + whole * units =
    ap (λ n. n / divisor) e ∙ add-mul-div_right (part * units + more) (whole * units) some in
    omega (arith, d)

-- a packet that has a PCR has one in its place
module _ (packet : List ℕ) (value : ℕ) where
  has-pcr : (b : Bool) (clock : ℕ) → (if b then Some clock else None) ≡ Some value → b ≡ true
  has-pcr true clock e = refl
  has-pcr false clock e = absurd cc

  pub pcr-there : pcr_of packet ≡ Some value → has_pcr_of packet ≡ true
  unfolding pcr_of
  pcr-there e = has-pcr (has_pcr_of packet) (clock_of packet) e

  -- so has one whose PCR is read
  pub time-there : time_in packet ≡ Some value → has_pcr_of packet ≡ true
  time-there e = elim (cases_Bool (error_indicator_of packet)) [
    | inl yes_ ↦ absurd (let n = sym (cond-true (error_indicator_of packet) None (pcr_of packet) yes_) ∙ e in cc)
    | inr no_ ↦ pcr-there (sym (cond-false (error_indicator_of packet) None (pcr_of packet) no_) ∙ e)
  ]
