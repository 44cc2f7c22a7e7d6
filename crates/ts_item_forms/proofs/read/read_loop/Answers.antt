use Rattle.std.proofs.Common.{arith, sym}
use Rattle.ts_item_forms.proofs.read.read_loop.Goals as goal

pub read_items-requires-clause-short : goal.read_items-requires-clause-short
read_items-requires-clause-short c =
    let small = c.read_number_is_spelled.ensures 8 c.in-Some.count c.args.from c.in-Some.rest (sym c.in-Some.ensures) in
    let long = c.read_bytes_are_spelled.ensures c.in-Some.count c.in_ok-bytes.bytes.items c.in-Some.rest c.in_ok-bytes.rest c.in_ok-bytes.ensures in
    rw c.deref.ensures.value (omega (arith, small.1, long.1))
