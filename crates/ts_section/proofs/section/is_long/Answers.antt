use Rattle.ts_section.proofs.HeadBytes.{form-byte}
use Rattle.ts_section.proofs.section.is_long.Goals as goal

pub returns : goal.returns
returns c = form-byte c.args.bytes.now (λ i. (c.type_inv.bytes i).fits)
