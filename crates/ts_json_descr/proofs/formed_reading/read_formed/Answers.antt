use Rattle.std.specs.Prelude.{◌&&◌, not}
use Rattle.serde_json.specs.View.{members_view}
use Rattle.ts_fields.specs.Bodies.{page}
use Rattle.ts_fields.specs.SoundRows.{is_open, rows_sound}
use Rattle.ts_item_forms.specs.ItemForms as forms
use Rattle.ts_item_forms.specs.ItemForms.{form_sound, formed_held}
use Rattle.ts_json_descr.proofs.BodyLemmas.{formed_is_shaped, formed_of}
use Rattle.ts_json_descr.proofs.StepLemmas.{both}
use Rattle.ts_json_descr.proofs.formed_reading.read_formed.Goals as goal

pub write_formed-requires-clause-shaped : goal.write_formed-requires-clause-shaped
write_formed-requires-clause-shaped c =
    let f = forms.form c.args.form.now in
    let p = page c.args.layout.now in
    let one = both (rows_sound p.head) (not (is_open p.head) && form_sound f) c.requires in
    let two = both (not (is_open p.head)) (form_sound f) one.1 in
    formed_is_shaped c.values_are_shaped.ensures c.item_page_is_sound.ensures p f (members_view c.args.members.now.entries) (formed_held f c.in_ok-body.body) two.1 c.in_ok-body.ensures

pub returns : goal.returns
returns c =
    let f = forms.form c.args.form.now in
    rw (formed_of (page c.args.layout.now) f (members_view c.args.members.now.entries) (formed_held f c.in_ok-body.body) c.in_ok-bytes.bytes.items c.in_ok-body.ensures c.in_ok-bytes.ensures)
    (rw c.deref.ensures.value at c.sized_descr.ensures)
