use Rattle.std.proofs.Common.{map}
use Rattle.ts_fields.specs.Layout.{held, rows_of}
use Rattle.ts_groups.proofs.grouped.read_alone.Goals as goal

pub returns-clause-fits : goal.returns-clause-fits
returns-clause-fits c =
    (c.length_of_read_rows.ensures (rows_of c.args.rows.now) _ (map held c.in_ok-values.values.items) _ c.in_ok-values.ensures).1
