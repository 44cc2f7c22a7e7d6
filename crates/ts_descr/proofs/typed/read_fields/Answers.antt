use Rattle.ts_fields.specs.Bodies.{page}
use Rattle.ts_descr.specs.Descriptors.{fields_alone}
use Rattle.ts_descr.proofs.LawLemmas.{typed_value}
use Rattle.ts_descr.proofs.typed.read_fields.Goals as goal

pub returns : goal.returns
returns g c = λ pages found.
    typed_value pages (page c.args.layout.now) c.args.from.now c.in_ok-value.value (λ x. fields_alone (g.T.Fields.fields x)) found
    c.in_ok-value.ensures
