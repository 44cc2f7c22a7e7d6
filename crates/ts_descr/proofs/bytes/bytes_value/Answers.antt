use Rattle.ts_descr.proofs.ByteLemmas.{bytes_by_index}
use Rattle.ts_descr.proofs.bytes.bytes_value.Goals as goal

pub returns-clause-fit : goal.returns-clause-fit
returns-clause-fit c = bytes_by_index c.args.row.now (λ i. (c.type_inv.row i).fits)

pub returns-in_err-from_slice-clause-fit : goal.returns-in_err-from_slice-clause-fit
returns-in_err-from_slice-clause-fit c = bytes_by_index c.args.row.now (λ i. (c.type_inv.row i).fits)
