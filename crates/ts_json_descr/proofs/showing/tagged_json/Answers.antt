use Rattle.std.proofs.Common.{ap, sym, ◌∙◌}
use Rattle.ts_fields.specs.Bodies.{page}
use Rattle.ts_json_descr.specs.DescrReading.{form_good, groups_sound}
use Rattle.ts_json_descr.proofs.PageLemmas.{form_by_tag, groups_by_tag}
use Rattle.ts_json_descr.proofs.showing.tagged_json.Goals as goal

pub by_form_json-requires-clause-groups : goal.by_form_json-requires-clause-groups
by_form_json-requires-clause-groups c =
    ap (groups_sound (page c.in-Some.layout.now)) c.groups_of.ensures
    ∙ groups_by_tag c.args.tag (page c.in-Some.layout.now) (sym c.in-Some.ensures.page)

pub by_form_json-requires-clause-form : goal.by_form_json-requires-clause-form
by_form_json-requires-clause-form c =
    ap (form_good (page c.in-Some.layout.now)) c.form_of.ensures
    ∙ form_by_tag c.args.tag (page c.in-Some.layout.now) (sym c.in-Some.ensures.page)
