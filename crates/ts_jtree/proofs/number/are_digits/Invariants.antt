use Rattle.std.proofs.Common.{◌≡◌, drop}
use Rattle.ts_jtree.specs.Numbers.{are_digits}
use Rattle.ts_jtree.proofs.number.are_digits.Given as goal

abbrev pub invariant-loop-byte : goal.invariant-loop-byte
invariant-loop-byte l = are_digits l.radix (drop l.byte-index l.digits) ≡ are_digits l.radix l.digits
