use Rattle.ts_jtree.proofs.RowLemmas.{ten_power}
use Rattle.ts_jtree.proofs.attribute.read_attribute.Goals as goal

pub overflow_sub-pow : goal.overflow_sub-pow
overflow_sub-pow c = rw c.pow.ensures (ten_power c.in-Decimal.digits)
