use Rattle.std.proofs.lemmas.Result.{err_from_is_err_and}
use Rattle.ts_fields.specs.Bits.{bits_of}
use Rattle.ts_fields.specs.Bodies.{body_held, item_page}
use Rattle.ts_item_forms.proofs.LoopLemmas.{items_alone_are, items_alone_fail}
use Rattle.ts_item_forms.proofs.read.read_items.Goals as goal

pub returns-in_err-body : goal.returns-in_err-body
returns-in_err-body c =
    let p = err_from_is_err_and c.from_residual.result c.from_residual.ensures.1 in
    rw (p.1, p.2) (items_alone_fail c.in_err-body.field-0.0 _ (item_page c.args.layout) (bits_of c.args.bytes.now) c.in_err-body.ensures.read)

pub returns : goal.returns
returns c = items_alone_are _ (item_page c.args.layout) (bits_of c.args.bytes.now) (body_held c.in_ok-body.body) c.in_ok-body.ensures.read
