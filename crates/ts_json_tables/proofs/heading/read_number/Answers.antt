use Rattle.std.proofs.Common.{◌∙◌, refl}
use Rattle.serde_json.specs.View.{members_view}
use Rattle.ts_fields.specs.Layout.{row}
use Rattle.ts_json_tables.proofs.NumberLemmas.{number_bounded, number_read}
use Rattle.ts_json_tables.proofs.heading.read_number.Goals as goal

pub returns-clause-bound : goal.returns-clause-bound
returns-clause-bound c =
    number_bounded (row c.args.field.now) (members_view c.args.members.now.entries) c.only_number.result c.requires
    (number_read (row c.args.field.now) (members_view c.args.members.now.entries) _ c.in_ok-values.ensures
    ∙ rw (c.only_number.ensures, c.deref.ensures.value) refl)
