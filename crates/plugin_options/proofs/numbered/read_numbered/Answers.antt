use Rattle.std.proofs.Common.{◌∙◌, sym, refl, None, Some}
use Rattle.plugin_options.specs.Parts.{part_of}
use Rattle.plugin_options.proofs.SignLemmas.{numbered_of_two, numbered_wants_sign}
use Rattle.plugin_options.proofs.numbered.read_numbered.Goals as goal

pub returns-in_default-clause-value : goal.returns-in_default-clause-value
returns-in_default-clause-value c = sym (numbered_wants_sign c.args.sign c.args.range c.args.part c.args.text.now c.in_default.ensures)

pub returns-in_default-read_number_within-clause-value : goal.returns-in_default-read_number_within-clause-value
returns-in_default-read_number_within-clause-value c =
    sym (numbered_of_two c.args.sign c.args.range c.args.part c.args.text.now c.in-Some.before.now c.in-Some.after.now None (part_of c.args.part c.in-Some.after.now) c.in-Some.ensures.0 c.in-Some.ensures.1 c.in-Some.ensures.2 c.in_default-read_number_within.ensures.value refl)

pub returns-in_default-2-clause-value : goal.returns-in_default-2-clause-value
returns-in_default-2-clause-value c =
    sym (numbered_of_two c.args.sign c.args.range c.args.part c.args.text.now c.in-Some.before.now c.in-Some.after.now (Some c.in-Some-read_number_within.number) None c.in-Some.ensures.0 c.in-Some.ensures.1 c.in-Some.ensures.2 c.in-Some-read_number_within.ensures.value (sym c.in_default-2.is ∙ c.in_ok-bytes.ensures.value))

pub returns-clause-value : goal.returns-clause-value
returns-clause-value c =
    sym (numbered_of_two c.args.sign c.args.range c.args.part c.args.text.now c.in-Some.before.now c.in-Some.after.now (Some c.in-Some-read_number_within.number) (Some c.in-Some-2.bytes) c.in-Some.ensures.0 c.in-Some.ensures.1 c.in-Some.ensures.2 c.in-Some-read_number_within.ensures.value (sym c.in-Some-2.is ∙ c.in_ok-bytes.ensures.value))
