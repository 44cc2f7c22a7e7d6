use Rattle.std.proofs.Common.{map}
use Rattle.ts_fields.specs.Bits.{bits_of}
use Rattle.ts_fields.specs.Bodies.{page}
use Rattle.ts_item_forms.specs.ItemForms as forms
use Rattle.ts_item_forms.specs.ItemForms.{formed_held, item_held}
use Rattle.ts_item_forms.proofs.ItemLemmas.{all_of_form_fit}
use Rattle.ts_item_forms.proofs.read.read_formed.Goals as goal

pub returns-clause-fits : goal.returns-clause-fits
returns-clause-fits c =
    let f = forms.form c.args.form.now in
    (c.formed_is_written.ensures (page c.args.layout.now) f (bits_of c.args.body.now) (formed_held f c.in_ok-values.values) c.requires.exact c.in_ok-values.ensures).1

pub returns-clause-items : goal.returns-clause-items
returns-clause-items c =
    let f = forms.form c.args.form.now in
    all_of_form_fit f (map (item_held f) c.in_ok-values.values.items.items)
    (c.formed_is_written.ensures (page c.args.layout.now) f (bits_of c.args.body.now) (formed_held f c.in_ok-values.values) c.requires.exact c.in_ok-values.ensures).2
