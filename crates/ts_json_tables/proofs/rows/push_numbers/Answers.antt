use Rattle.std.proofs.Common.{◌∙◌, ap}
use Rattle.std.proofs.lemmas.List.{map-append}
use Rattle.ts_fields.specs.Layout.{row, rows_of}
use Rattle.ts_json_tables.proofs.rows.push_numbers.Goals as goal

pub returns : goal.returns
returns c = ap rows_of c.in_ok-extend_from_slice.ensures.items ∙ map-append row c.args.rows.now.items _
