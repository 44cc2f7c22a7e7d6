use Rattle.ts_table_rows.proofs.SizeLemmas.{bytes_by_index}
use Rattle.ts_table_rows.proofs.write_rows.bytes_are_small.Goals as goal

pub returns : goal.returns
returns c = bytes_by_index c.args.row.now (λ i. (c.type_inv.row i).fits)
