use Rattle.std.proofs.Common.{◌∙◌, sym, arith}
use Rattle.plugin_options.proofs.NumberLemmas.{if_above, if_below, if_inside, within_none, within_some}
use Rattle.plugin_options.proofs.number.read_number_within.Goals as goal
use Rattle.plugin_options.proofs.number.read_number_within.Goals.{else-least-number-via-then-least-number+else-number-most, else-least-number-via-else-least-number}

pub returns-in_err-number-clause-value : goal.returns-in_err-number-clause-value
returns-in_err-number-clause-value c =
    c.from_residual.ensures ∙ sym (within_none c.args.least c.args.most c.args.text.now (omega arith) c.in_err-number.ensures.none)

pub returns-then-number-most-clause-value : goal.returns-then-number-most-clause-value
returns-then-number-most-clause-value c =
    sym (within_some c.args.least c.args.most c.args.text.now c.in_ok-number.number c.in_ok-number.ensures.some ∙ if_inside c.args.least c.args.most c.in_ok-number.number (omega arith) (omega arith))

pub returns-else-least-number-clause-value : goal.returns-else-least-number-clause-value
returns-else-least-number-clause-value c =
    let found = within_some c.args.least c.args.most c.args.text.now c.in_ok-number.number c.in_ok-number.ensures.some in
    elim c.else-least-number.branch [
      | else-least-number-via-then-least-number+else-number-most w ↦ sym (found ∙ if_above c.args.least c.args.most c.in_ok-number.number (omega arith))
      | else-least-number-via-else-least-number w ↦ sym (found ∙ if_below c.args.least c.args.most c.in_ok-number.number (omega arith))
    ]
