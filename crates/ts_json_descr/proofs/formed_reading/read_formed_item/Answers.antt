use Rattle.std.proofs.Common.{map}
use Rattle.ts_fields.specs.Layout.{held}
use Rattle.ts_item_forms.specs.ItemForms as forms
use Rattle.ts_json_descr.proofs.formed_reading.read_formed_item.Goals as goal

pub read_item_body-requires : goal.read_item_body-requires
read_item_body-requires c =
    rw (c.deref-2.ensures.value, c.in_ok-rows.ensures)
    (c.item_page_is_sound.ensures (forms.form c.args.form.now) (map held c.deref.result.now) c.requires)
