use Rattle.std.proofs.Common.{map}
use Rattle.ts_fields.specs.Layout.{held}
use Rattle.ts_item_forms.specs.ItemForms as forms
use Rattle.ts_item_forms.proofs.SoundLemmas.{further_sound}
use Rattle.ts_item_forms.proofs.read.read_item.Goals as goal

pub read_rows-requires-2 : goal.read_rows-requires-2
read_rows-requires-2 c =
    let f = forms.form c.args.form.now in
    let values = map held c.deref.result.now in
    rw (c.deref-2.ensures.value, c.in_ok-further.ensures) (further_sound f values (c.item_page_is_sound.ensures f values c.requires))
