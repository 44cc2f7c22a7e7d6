use Rattle.std.proofs.Common.{sym}
use Rattle.ts_fields.specs.Bodies.{page}
use Rattle.ts_json_descr.proofs.PageLemmas.{form_by_name, groups_by_name}
use Rattle.ts_json_descr.proofs.reading.read_named.Goals as goal

pub read_tagged-requires-clause-groups : goal.read_tagged-requires-clause-groups
read_tagged-requires-clause-groups c =
    groups_by_name c.args.name.now (page c.in-Some.layout.now) (sym c.in-Some.ensures.page)

pub read_tagged-requires-clause-form : goal.read_tagged-requires-clause-form
read_tagged-requires-clause-form c =
    form_by_name c.args.name.now (page c.in-Some.layout.now) (sym c.in-Some.ensures.page)
