use Rattle.switch_args.proofs.FormLemmas.{refused, unfinished, none-faulty}
use Rattle.switch_args.proofs.laws.first_fault_law.Goals as goal

pub returns : goal.returns
returns c = record { refused = refused; unfinished = unfinished; of_the_form = none-faulty }
