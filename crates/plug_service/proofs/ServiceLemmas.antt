-- Counts of services.
use Rattle.std.proofs.Common.{◌≡◌, ℕ, ◌<◌, ◌==◌, true, not, arith}
use Rattle.std.proofs.lemmas.Bool.Decides.{nat_tests}

-- where there is one more than none, there is one
pub above-none : (n : ℕ) → not (n == 0) ≡ true → 0 < n
above-none n e = grind (arith, nat_tests, e)
