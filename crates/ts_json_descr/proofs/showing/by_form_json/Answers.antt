use Rattle.std.specs.Prelude.{IsTrue, Some}
use Rattle.ts_fields.specs.Bodies.{page}
use Rattle.ts_item_forms.specs.ItemForms as forms
use Rattle.ts_item_forms.specs.ItemForms.{formed_exact, formed_sound}
use Rattle.ts_json_descr.specs.DescrReading.{form_good}
use Rattle.ts_json_descr.proofs.StepLemmas.{both}
use Rattle.ts_json_descr.proofs.showing.by_form_json.Goals as goal

pub formed_json-requires-clause-sound : goal.formed_json-requires-clause-sound
formed_json-requires-clause-sound c =
    let p = page c.args.layout.now in
    let f = forms.form c.in-Some.form.now in
    let good : IsTrue (form_good p (Some f)) = rw c.in-Some.is at c.requires.form in
    (both (formed_sound p f) (formed_exact p f) good).0

pub formed_json-requires-clause-exact : goal.formed_json-requires-clause-exact
formed_json-requires-clause-exact c =
    let p = page c.args.layout.now in
    let f = forms.form c.in-Some.form.now in
    let good : IsTrue (form_good p (Some f)) = rw c.in-Some.is at c.requires.form in
    (both (formed_sound p f) (formed_exact p f) good).1
