use Rattle.std.proofs.Common.{◌∙◌, sym, refl, None, Some}
use Rattle.plugin_options.specs.Number.{number_within}
use Rattle.plugin_options.proofs.SignLemmas.{pair_of_two, pair_wants_sign}
use Rattle.plugin_options.proofs.pairs.read_pair.Goals as goal

pub returns-in_err-before-clause-value : goal.returns-in_err-before-clause-value
returns-in_err-before-clause-value c =
    c.from_residual.ensures ∙ sym (pair_wants_sign c.args.sign c.args.first c.args.second c.args.text.now c.in_err-before.ensures)

pub returns-in_err-one-clause-value : goal.returns-in_err-one-clause-value
returns-in_err-one-clause-value c =
    c.from_residual-in_err-one.ensures
    ∙ sym (pair_of_two c.args.sign c.args.first c.args.second c.args.text.now c.in_ok-before.before.now c.in_ok-before.after.now None (number_within c.args.second.0 c.args.second.1 c.in_ok-before.after.now) c.in_ok-before.ensures.0 c.in_ok-before.ensures.1 c.in_ok-before.ensures.2 c.in_err-one.ensures.value refl)

pub returns-in_err-other-clause-value : goal.returns-in_err-other-clause-value
returns-in_err-other-clause-value c =
    c.from_residual-in_err-other.ensures
    ∙ sym (pair_of_two c.args.sign c.args.first c.args.second c.args.text.now c.in_ok-before.before.now c.in_ok-before.after.now (Some c.in_ok-one.one) None c.in_ok-before.ensures.0 c.in_ok-before.ensures.1 c.in_ok-before.ensures.2 c.in_ok-one.ensures.value c.in_err-other.ensures.value)

pub returns-clause-value : goal.returns-clause-value
returns-clause-value c =
    sym (pair_of_two c.args.sign c.args.first c.args.second c.args.text.now c.in_ok-before.before.now c.in_ok-before.after.now (Some c.in_ok-one.one) (Some c.in_ok-other.other) c.in_ok-before.ensures.0 c.in_ok-before.ensures.1 c.in_ok-before.ensures.2 c.in_ok-one.ensures.value c.in_ok-other.ensures.value)
