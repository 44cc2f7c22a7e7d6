use Rattle.std.proofs.Common.{◌≡◌, ℕ, ◌+◌, ◌-◌, ◌*◌, ◌/◌, ◌%◌, ◌<◌, sym, ap, ◌∙◌, arith, suc}
use Rattle.ts_bits.specs.Decimal.{packed}
use Rattle.ts_bits.proofs.Digits.{packed-zero, packed-suc, packed-lt}
use Rattle.ts_bits.proofs.decimal.+packed_digits.Goals as goal

pub returns-then-digits-eq0-clause-digits : goal.returns-then-digits-eq0-clause-digits
returns-then-digits-eq0-clause-digits t c =
    sym (ap (λ n. packed n c.args.value) c.if-digits-eq0.true ∙ packed-zero c.args.value)

-- one digit more
more : (digits value rest : ℕ) → 0 < digits → rest ≡ packed (digits - 1) (value / 10) → 16 * rest + value % 10 ≡ packed digits value
more digits value rest some same =
    let next : suc (digits - 1) ≡ digits = omega arith in
    ap (λ n. 16 * n + value % 10) same ∙ sym (packed-suc (digits - 1) value) ∙ ap (λ n. packed n value) next

pub returns-clause-digits : goal.returns-clause-digits
returns-clause-digits t c = more c.args.digits c.args.value c.packed_digits.result (omega arith) c.packed_digits.ensures.digits

pub returns-clause-width : goal.returns-clause-width
returns-clause-width t c =
    let same : 16 * c.packed_digits.result + c.args.value % 10 ≡ packed c.args.digits c.args.value =
    more c.args.digits c.args.value c.packed_digits.result (omega arith) c.packed_digits.ensures.digits in
    rw same (packed-lt c.args.digits c.args.value)
