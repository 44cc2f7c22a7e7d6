use Rattle.std.proofs.Common.{◌∙◌, FitsSigned, Some, ap, arith, rules, sym, w64}
use Rattle.std.proofs.lemmas.Int.{ints, to_z-of_z}
use Rattle.plugin_options.proofs.SignedLemmas.{signed_above, signed_below, signed_inside, signed_none, signed_some}
use Rattle.plugin_options.proofs.signed.read_signed_within.Goals as goal
use Rattle.plugin_options.proofs.signed.read_signed_within.Goals.{else-least-number-via-then-least-number+else-number-most, else-least-number-via-else-least-number}

pub returns-in_err-number-clause-value : goal.returns-in_err-number-clause-value
returns-in_err-number-clause-value c =
    c.from_residual.ensures ∙ sym (signed_none c.args.least c.args.most c.args.text.now c.ranges.least c.ranges.most c.in_err-number.ensures.none)

pub returns-then-number-most-clause-value : goal.returns-then-number-most-clause-value
returns-then-number-most-clause-value c =
    let fits : FitsSigned w64 c.in_ok-number.number = search rules in
    ap Some (to_z-of_z w64 c.in_ok-number.number fits)
    ∙ sym (signed_some c.args.least c.args.most c.args.text.now c.in_ok-number.number c.in_ok-number.ensures.some ∙ signed_inside c.args.least c.args.most c.in_ok-number.number (omega (arith, ints)) (omega (arith, ints)))

pub returns-else-least-number-clause-value : goal.returns-else-least-number-clause-value
returns-else-least-number-clause-value c =
    let found = signed_some c.args.least c.args.most c.args.text.now c.in_ok-number.number c.in_ok-number.ensures.some in
    elim c.else-least-number.branch [
      | else-least-number-via-then-least-number+else-number-most w ↦ sym (found ∙ signed_above c.args.least c.args.most c.in_ok-number.number (omega (arith, ints)))
      | else-least-number-via-else-least-number w ↦ sym (found ∙ signed_below c.args.least c.args.most c.in_ok-number.number (omega (arith, ints)))
    ]
