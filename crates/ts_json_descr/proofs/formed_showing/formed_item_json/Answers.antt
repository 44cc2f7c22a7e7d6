use Rattle.ts_fields.specs.Bodies.{body_held, items_fit}
use Rattle.ts_fields.specs.Fitting.{fits}
use Rattle.ts_fields.specs.Layout.{rows_of}
use Rattle.ts_item_forms.specs.ItemForms as forms
use Rattle.ts_json_descr.proofs.StepLemmas.{both}
use Rattle.ts_json_descr.proofs.formed_showing.formed_item_json.Goals as goal

pub element_json-requires : goal.element_json-requires
element_json-requires c =
    let rs = rows_of c.args.item.now.rows.items in
    let h = body_held c.args.item.now.body in
    let fit = (both (fits rs h.head) (items_fit (forms.form c.args.form.now).inner h.items) c.requires).0 in
    rw (c.deref-2.ensures.value, c.deref-3.ensures.value) (c.fit_is_shown.ensures rs h.head fit)

pub returns : goal.returns
returns c = rw (c.deref-3.ensures.value, c.in_ok-nodes.ensures, c.deref-2.ensures.value, c.deref.ensures.value) at c.element_json.ensures
