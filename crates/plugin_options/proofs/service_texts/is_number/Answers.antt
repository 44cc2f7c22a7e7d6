use Rattle.std.proofs.Common.{◌∙◌, ap, sym}
use Rattle.std.specs.Prelude.{is_some}
use Rattle.plugin_options.proofs.NumberLemmas.{after_sign, numeral-some, without_sign}
use Rattle.plugin_options.proofs.service_texts.is_number.Goals as goal

pub returns-in-Some : goal.returns-in-Some
returns-in-Some c =
    c.is_hexadecimal.ensures ∙ numeral-some 16 c.in-Some.digits.now ∙ ap is_some (sym (after_sign c.args.text.now c.in-Some.digits.now c.in-Some.ensures.cases))

pub returns-in-None : goal.returns-in-None
returns-in-None c =
    c.is_decimal.ensures ∙ numeral-some 10 c.args.text.now ∙ ap is_some (sym (without_sign c.args.text.now c.in-None.ensures.cases))
