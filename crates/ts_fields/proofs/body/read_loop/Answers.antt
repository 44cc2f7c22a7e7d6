use Rattle.std.proofs.Common.{sym}
use Rattle.ts_fields.proofs.LoopLemmas.{few_bytes}
use Rattle.ts_fields.proofs.body.read_loop.Goals as goal

pub of-requires : goal.of-requires
of-requires c = rw c.deref.ensures.value (few_bytes c.args.from c.in_ok-bytes.rest c.in-Some.count c.in-Some.rest c.in_ok-bytes.bytes.items (sym c.in-Some.ensures) c.in_ok-bytes.ensures)
