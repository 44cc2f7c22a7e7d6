use Rattle.std.proofs.Common.{ap, ◌∙◌}
use Rattle.ts_fields.specs.Bits.{bits_of}
use Rattle.ts_fields.specs.Bodies.{body_held}
use Rattle.ts_fields.specs.Layout.{rows_of}
use Rattle.ts_item_forms.specs.ItemForms as forms
use Rattle.ts_item_forms.proofs.WriteLemmas.{item_behind}
use Rattle.ts_item_forms.proofs.write.push_item.Goals as goal

pub returns : goal.returns
returns c =
    let old = c.args.bytes.now.items in
    let fields = c.in_ok-fields.fields.items in
    let inner = c.in_ok-inner.inner.items in
    ap bits_of (rw (c.deref-4.ensures.value, c.in_ok-extend_from_slice.ensures.items, c.deref-3.ensures.value) at c.in_ok-extend_from_slice-2.ensures.items)
    ∙ item_behind (forms.form c.args.form.now) (rows_of c.args.item.now.rows.items) (body_held c.args.item.now.body) old fields inner
    (rw (c.deref.ensures.value, c.deref-2.ensures.value) at c.in_ok-fields.ensures) c.in_ok-inner.ensures
