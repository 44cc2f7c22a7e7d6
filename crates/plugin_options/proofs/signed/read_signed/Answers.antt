use Rattle.std.proofs.Common.{◌∙◌, ap, arith, pos, neg_ℤ}
use Rattle.std.specs.Prelude.{option_map}
use Rattle.std.proofs.lemmas.Int.{ints}
use Rattle.plugin_options.proofs.SignedLemmas.{far_above, far_below, held_none, held_some, negative, plain}
use Rattle.plugin_options.proofs.signed.read_signed.Goals as goal

pub returns-in_err-read_number-in-Some-clause-none : goal.returns-in_err-read_number-in-Some-clause-none
returns-in_err-read_number-in-Some-clause-none c =
    rw (c.from_residual.ensures, negative c.args.text.now c.in-Some.digits.now c.in-Some.ensures.cases) (far_below _ c.in_err-read_number-in-Some.ensures.none)

pub returns-in_err-read_number-in-None-clause-none : goal.returns-in_err-read_number-in-None-clause-none
returns-in_err-read_number-in-None-clause-none c =
    rw (c.from_residual-in_err-read_number-in-None.ensures, plain c.args.text.now c.in-None.ensures.cases) (far_above _ c.in_err-read_number-in-None.ensures.none)

pub returns-in_ok-read_number-in-Some-clause-some : goal.returns-in_ok-read_number-in-Some-clause-some
returns-in_ok-read_number-in-Some-clause-some c =
    held_some (neg_ℤ (pos c.in_ok-read_number-in-Some.field-0)) _ _ _
    (negative c.args.text.now c.in-Some.digits.now c.in-Some.ensures.cases ∙ ap (option_map (λ n. neg_ℤ (pos n))) c.in_ok-read_number-in-Some.ensures.some)
    (omega (arith, ints)) c.checked_sub_unsigned.ensures

pub returns-in_ok-read_number-in-Some-clause-none : goal.returns-in_ok-read_number-in-Some-clause-none
returns-in_ok-read_number-in-Some-clause-none c =
    held_none (neg_ℤ (pos c.in_ok-read_number-in-Some.field-0)) _ _ _
    (negative c.args.text.now c.in-Some.digits.now c.in-Some.ensures.cases ∙ ap (option_map (λ n. neg_ℤ (pos n))) c.in_ok-read_number-in-Some.ensures.some)
    (omega (arith, ints)) c.checked_sub_unsigned.ensures

pub returns-in_ok-read_number-in-None-clause-some : goal.returns-in_ok-read_number-in-None-clause-some
returns-in_ok-read_number-in-None-clause-some c =
    held_some (pos c.in_ok-read_number-in-None.field-0) _ _ _
    (plain c.args.text.now c.in-None.ensures.cases ∙ ap (option_map pos) c.in_ok-read_number-in-None.ensures.some)
    (omega (arith, ints)) c.checked_add_unsigned.ensures

pub returns-in_ok-read_number-in-None-clause-none : goal.returns-in_ok-read_number-in-None-clause-none
returns-in_ok-read_number-in-None-clause-none c =
    held_none (pos c.in_ok-read_number-in-None.field-0) _ _ _
    (plain c.args.text.now c.in-None.ensures.cases ∙ ap (option_map pos) c.in_ok-read_number-in-None.ensures.some)
    (omega (arith, ints)) c.checked_add_unsigned.ensures
