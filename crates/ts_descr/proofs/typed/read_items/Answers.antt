use Rattle.std.proofs.Common.{map}
use Rattle.ts_fields.specs.Bodies.{page}
use Rattle.ts_descr.specs.Descriptors.{items_alone}
use Rattle.ts_descr.proofs.LawLemmas.{typed_value}
use Rattle.ts_descr.proofs.typed.read_items.Goals as goal

pub returns : goal.returns
returns g c = λ pages found.
    typed_value pages (page c.args.layout.now) c.args.from.now c.in_ok-values.values (λ v. items_alone (map g.T.Fields.fields v.items)) found
    c.in_ok-values.ensures
