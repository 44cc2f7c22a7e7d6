use Rattle.std.specs.Prelude.{IsTrue, Some}
use Rattle.ts_fields.specs.Bodies.{page}
use Rattle.ts_item_forms.specs.ItemForms as forms
use Rattle.ts_item_forms.specs.ItemForms.{formed_exact, formed_sound}
use Rattle.ts_json_descr.specs.DescrReading.{form_good}
use Rattle.ts_json_descr.proofs.StepLemmas.{both}
use Rattle.ts_json_descr.proofs.reading.read_by_page.Goals as goal

pub read_formed-requires : goal.read_formed-requires
read_formed-requires c =
    let p = page c.args.layout.now in
    let f = forms.form c.in-Some.form.now in
    let good : IsTrue (form_good p (Some f)) = rw c.in-Some.is at c.requires.form in
    (both (formed_sound p f) (formed_exact p f) good).0
