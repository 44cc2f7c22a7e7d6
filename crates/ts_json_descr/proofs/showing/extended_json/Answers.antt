use Rattle.std.proofs.Common.{ap, sym, ◌∙◌}
use Rattle.ts_fields.specs.Bodies.{page}
use Rattle.ts_json_descr.specs.DescrReading.{groups_sound}
use Rattle.ts_json_descr.proofs.PageLemmas.{extension_groups_by_tag}
use Rattle.ts_json_descr.proofs.showing.extended_json.Goals as goal

pub paged_json-requires-clause-groups : goal.paged_json-requires-clause-groups
paged_json-requires-clause-groups c =
    ap (groups_sound (page c.in-Some.layout.now)) c.extension_groups_of.ensures
    ∙ extension_groups_by_tag c.args.tag (page c.in-Some.layout.now) (sym c.in-Some.ensures.page)
