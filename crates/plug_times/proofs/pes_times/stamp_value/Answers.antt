use Rattle.std.proofs.Common.{arith}
use Rattle.plug_times.proofs.StampBytes.{stamp_value-bytes}
use Rattle.plug_times.proofs.pes_times.stamp_value.Goals as goal

pub returns : goal.returns
returns c = rw (stamp_value-bytes c.args.five.now (λ k lt. (c.type_inv.five k).fits)) (omega (arith, c.from-high.ensures, c.from.ensures, c.from-2.ensures, c.from-3.ensures, c.from-4.ensures))
