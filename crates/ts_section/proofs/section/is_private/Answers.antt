use Rattle.ts_section.proofs.HeadBytes.{private-byte}
use Rattle.ts_section.proofs.section.is_private.Goals as goal

pub returns : goal.returns
returns c = private-byte c.args.bytes.now (λ i. (c.type_inv.bytes i).fits)
