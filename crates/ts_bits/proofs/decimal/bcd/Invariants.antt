use Rattle.std.proofs.Common.{◌≡◌}
use Rattle.ts_bits.specs.Decimal.{decimal, AreDigits}
use Rattle.ts_bits.proofs.decimal.bcd.Given as goal

abbrev pub invariant-loop-place : goal.invariant-loop-place
invariant-loop-place l = record { number : l.number ≡ decimal l.from l.at l.place; digits : AreDigits l.from l.at l.place }
