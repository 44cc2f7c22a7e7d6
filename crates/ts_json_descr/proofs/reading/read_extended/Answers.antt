use Rattle.std.proofs.Common.{ap, sym, ◌∙◌}
use Rattle.ts_fields.specs.Bodies.{page}
use Rattle.ts_json_descr.specs.DescrReading.{groups_sound}
use Rattle.ts_json_descr.proofs.PageLemmas.{extension_groups_by_name}
use Rattle.ts_json_descr.proofs.reading.read_extended.Goals as goal

pub read_paged-requires-clause-groups : goal.read_paged-requires-clause-groups
read_paged-requires-clause-groups c =
    ap (groups_sound (page c.in-Some.layout.now)) c.extension_groups_of-groups.ensures
    ∙ extension_groups_by_name c.args.name.now (page c.in-Some.layout.now) (sym c.in-Some.ensures.page)
