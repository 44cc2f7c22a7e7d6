use Rattle.std.proofs.Common.{sym, arith}
use Rattle.ts_table_rows.proofs.read_loop.read_counted.Goals as goal

pub returns-in-Ok-clause-few : goal.returns-in-Ok-clause-few
returns-in-Ok-clause-few c =
    let size = c.read_number_is_spelled.ensures 12 c.in-Some.size c.args.from c.in-Some.rest (sym c.in-Some.ensures) in
    let row = c.read_bytes_are_spelled.ensures c.in-Some.size c.in-Ok.read.0.items c.in-Some.rest c.in-Ok.read.1 c.in-Ok.ensures in
    omega (arith, size.1, row.1)
