use Rattle.std.proofs.Common.{sym}
use Rattle.ts_section.proofs.HeadBytes.{head-bytes}
use Rattle.ts_section.proofs.section.long_head.Goals as goal

pub returns : goal.returns
returns c = sym (head-bytes c.args.b.now (λ i. (c.type_inv.b i).fits) c.from_be_bytes.result c.from_be_bytes.ensures)
