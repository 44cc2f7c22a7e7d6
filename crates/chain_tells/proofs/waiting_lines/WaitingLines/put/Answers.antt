use Rattle.std.proofs.Common.{refl}
use Rattle.chain_tells.proofs.waiting_lines.WaitingLines.put.Goals as goal

pub returns : goal.returns
returns c = (record { lines = c.from_vec.result }, c.from_vec.ensures.items, refl)
