use Rattle.std.proofs.Common.{◌∙◌, sym, refl, None, Some, arith}
use Rattle.plugin_options.specs.Number.{number_within}
use Rattle.plugin_options.proofs.SignLemmas.{in_order, out_of_order, range_alone, range_of_two}
use Rattle.plugin_options.proofs.ranges.read_range.Goals as goal

pub returns-in_err-number-clause-value : goal.returns-in_err-number-clause-value
returns-in_err-number-clause-value c =
    c.from_residual.ensures ∙ sym (range_alone c.args.least c.args.most c.args.text.now None c.in_default.ensures c.in_err-number.ensures.value)

pub returns-in_default-clause-value : goal.returns-in_default-clause-value
returns-in_default-clause-value c =
    sym (range_alone c.args.least c.args.most c.args.text.now (Some c.in_ok-number.number) c.in_default.ensures c.in_ok-number.ensures.value)

pub returns-in_err-low-clause-value : goal.returns-in_err-low-clause-value
returns-in_err-low-clause-value c =
    c.from_residual-in_err-low.ensures
    ∙ sym (range_of_two c.args.least c.args.most c.args.text.now c.in-Some.low.now c.in-Some.high.now None (number_within c.args.least c.args.most c.in-Some.high.now) c.in-Some.ensures.0 c.in-Some.ensures.1 c.in-Some.ensures.2 c.in_err-low.ensures.value refl)

pub returns-in_err-high-clause-value : goal.returns-in_err-high-clause-value
returns-in_err-high-clause-value c =
    c.from_residual-in_err-high.ensures
    ∙ sym (range_of_two c.args.least c.args.most c.args.text.now c.in-Some.low.now c.in-Some.high.now (Some c.in_ok-low.low) None c.in-Some.ensures.0 c.in-Some.ensures.1 c.in-Some.ensures.2 c.in_ok-low.ensures.value c.in_err-high.ensures.value)

pub returns-then-low-high-clause-value : goal.returns-then-low-high-clause-value
returns-then-low-high-clause-value c =
    sym (range_of_two c.args.least c.args.most c.args.text.now c.in-Some.low.now c.in-Some.high.now (Some c.in_ok-low.low) (Some c.in_ok-high.high) c.in-Some.ensures.0 c.in-Some.ensures.1 c.in-Some.ensures.2 c.in_ok-low.ensures.value c.in_ok-high.ensures.value ∙ in_order c.in_ok-low.low c.in_ok-high.high (omega arith))

pub returns-else-low-high-clause-value : goal.returns-else-low-high-clause-value
returns-else-low-high-clause-value c =
    sym (range_of_two c.args.least c.args.most c.args.text.now c.in-Some.low.now c.in-Some.high.now (Some c.in_ok-low.low) (Some c.in_ok-high.high) c.in-Some.ensures.0 c.in-Some.ensures.1 c.in-Some.ensures.2 c.in_ok-low.ensures.value c.in_ok-high.ensures.value ∙ out_of_order c.in_ok-low.low c.in_ok-high.high (omega arith))
