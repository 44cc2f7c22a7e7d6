-- Lemmas on the mean of all steps.
use Rattle.std.proofs.Common.{◌≡◌, ℕ, ◌+◌, ◌*◌, ◌/◌, ◌<◌, ◌≤◌, Bool, false, ◌==◌, if◌then◌else◌, ap, sym, subst, arith}
use Rattle.std.proofs.Math.Nat.{add-mul, div-mul-le_self, lt-div-mul-add}
use Rattle.std.proofs.lemmas.Bool.{ne_eqb}
use Rattle.plug_clock.specs.StreamClock.{mean_units}
use Rattle.plug_clock.specs.declared.stream_clock.StreamClock.{StreamClock}

mean-is : (clock : StreamClock) (count : ℕ) → 0 < clock.positions → mean_units clock count ≡ count * clock.units / clock.positions
mean-is clock count some =
    ap (λ (b : Bool). if b then 0 else count * clock.units / clock.positions) (let none : (clock.positions == 0) ≡ false = ne_eqb _ _ (λ is. omega (arith, some, is)) in none)

pub mean-least : (clock : StreamClock) (count : ℕ) → 0 < clock.positions → mean_units clock count * clock.positions ≤ count * clock.units
mean-least clock count some =
    subst (λ (mean : ℕ). mean * clock.positions ≤ count * clock.units) (sym (mean-is clock count some)) (div-mul-le_self (count * clock.units) clock.positions)

pub mean-most : (clock : StreamClock) (count : ℕ) → 0 < clock.positions → count * clock.units < (mean_units clock count + 1) * clock.positions
mean-most clock count some =
    subst (λ (mean : ℕ). count * clock.units < (mean + 1) * clock.positions) (sym (mean-is clock count some))
    (omega (arith, add-mul (count * clock.units / clock.positions) 1 clock.positions, lt-div-mul-add {a = count * clock.units} {b = clock.positions} some))
