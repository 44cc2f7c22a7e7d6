use Rattle.std.proofs.Common.{get_or, ap, arith}
use Rattle.ts_section.proofs.WrittenLemmas.{next_five-made}
use Rattle.ts_section.proofs.section.long_bytes.Goals as goal

pub returns : goal.returns
returns c =
    next_five-made c.args.head (get_or c.to_be_bytes.result 0 0) (get_or c.to_be_bytes.result 1 0) c.from.result
    c.requires c.from.ensures (ap (λ row. get_or row 0 0) c.to_be_bytes.ensures) (ap (λ row. get_or row 1 0) c.to_be_bytes.ensures) (omega arith)
