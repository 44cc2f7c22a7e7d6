use Rattle.std.proofs.Common.{get_or, ap}
use Rattle.ts_section.proofs.WrittenLemmas.{first_three-made}
use Rattle.ts_section.proofs.section.first_bytes.Goals as goal

pub returns : goal.returns
returns c =
    first_three-made c.args.table_id c.from.result c.from-2.result (get_or c.to_be_bytes.result 0 0) (get_or c.to_be_bytes.result 1 0) c.args.length c.args.long c.args.private
    c.from.ensures c.from-2.ensures (ap (λ row. get_or row 0 0) c.to_be_bytes.ensures) (ap (λ row. get_or row 1 0) c.to_be_bytes.ensures) c.requires
