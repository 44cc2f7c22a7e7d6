use Rattle.std.proofs.Common.{◌∙◌, map, ap, sym}
use Rattle.serde_json.specs.View.{members_view}
use Rattle.ts_fields.specs.Layout.{held}
use Rattle.ts_jtree.specs.Attributes.{read_attributes}
use Rattle.ts_json_tables.specs.TimeOffsets.{tot_rows}
use Rattle.ts_json_tables.proofs.short_reading.read_tot_element.Goals as goal

pub returns-clause-shaped : goal.returns-clause-shaped
returns-clause-shaped c =
    let ms = members_view c.args.members.now.entries in
    c.values_are_shaped.ensures tot_rows ms (map held c.in_ok-values.values.items)
    (ap (λ rs. read_attributes rs ms) (sym c.tot_fields-fields.ensures) ∙ c.in_ok-values.ensures)
