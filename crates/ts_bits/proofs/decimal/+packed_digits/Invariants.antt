use Rattle.ts_bits.proofs.decimal.+packed_digits.Given as goal

abbrev pub decreases-packed_digits : goal.decreases-packed_digits
decreases-packed_digits l = l.digits
