use Rattle.std.proofs.Common.{ap, ◌∙◌}
use Rattle.ts_fields.specs.Bodies.{page}
use Rattle.ts_json_descr.specs.DescrReading.{form_good, groups_sound}
use Rattle.ts_json_descr.proofs.reading.read_tagged.Goals as goal

pub read_by_page-requires-clause-groups : goal.read_by_page-requires-clause-groups
read_by_page-requires-clause-groups c = ap (groups_sound (page c.args.layout.now)) c.groups_of-groups.ensures ∙ c.requires.groups

pub read_by_page-requires-clause-form : goal.read_by_page-requires-clause-form
read_by_page-requires-clause-form c = ap (form_good (page c.args.layout.now)) c.form_of-form.ensures ∙ c.requires.form
