use Rattle.std.proofs.Common.{◌≡◌, ◌-◌, ◌*◌, ◌/◌, ◌^◌, ◌≤◌, refl, sym, arith, below_more, add-one, subst, ◌<◌}
use Rattle.std.specs.Prelude.{bit_and}
use Rattle.ts_bits.specs.Decimal.{half_byte}
use Rattle.ts_bits.proofs.Digits.{decimal-zero, decimal-suc, decimal-lt, decimal-lt_eight, masked_half_byte}
use Rattle.ts_bits.proofs.decimal.bcd.Goals as goal

pub loop-place-init : goal.loop-place-init
loop-place-init c = record { number = sym (decimal-zero c.args.from.now c.args.at); digits = λ place early. absurd (omega arith) }

pub returns-then-digit-gt9-clause-refused : goal.returns-then-digit-gt9-clause-refused
returns-then-digit-gt9-clause-refused c =
    let digit : bit_and (c.in-Ok.packed / 2 ^ (4 * (c.args.digits - 1 - c.loop-place.place))) 15 ≡ half_byte c.args.from.now c.args.at c.loop-place.place =
    masked_half_byte c.args.from.now c.args.at c.args.digits c.loop-place.place c.in-Ok.packed c.in-Ok.ensures.read c.loop-place-test.true in
    (c.in-Ok.ensures.there.0 refl, c.loop-place-test.true, omega arith, c.loop-place.invariant.digits)

pub overflow_mul-number : goal.overflow_mul-number
overflow_mul-number c =
    omega (arith, decimal-lt_eight c.args.from.now c.args.at c.loop-place.place (omega arith) c.loop-place.invariant.digits)

pub overflow_add-number : goal.overflow_add-number
overflow_add-number c =
    omega (arith, decimal-lt_eight c.args.from.now c.args.at c.loop-place.place (omega arith) c.loop-place.invariant.digits)

pub loop-place-preserved : goal.loop-place-preserved
loop-place-preserved c =
    let digit : bit_and (c.in-Ok.packed / 2 ^ (4 * (c.args.digits - 1 - c.loop-place.place))) 15 ≡ half_byte c.args.from.now c.args.at c.loop-place.place =
    masked_half_byte c.args.from.now c.args.at c.args.digits c.loop-place.place c.in-Ok.packed c.in-Ok.ensures.read c.loop-place-test.true in
    record {
      number = rw add-one (rw decimal-suc (omega arith));
      digits = below_more (λ place. half_byte c.args.from.now c.args.at place ≤ 9) c.loop-place.place c.loop-place.invariant.digits (omega arith);
    }

pub returns-clause-below : goal.returns-clause-below
returns-clause-below c =
    let all : c.loop-place.place ≡ c.args.digits = omega arith in
    subst (λ n. c.loop-place.number < 10 ^ n) all (rw c.loop-place.invariant.number (decimal-lt c.args.from.now c.args.at c.loop-place.place c.loop-place.invariant.digits))
